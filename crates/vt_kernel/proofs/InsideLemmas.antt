-- How the fields of a worker go together after one of them changed.
use Rattle.std.proofs.Common.{◌≡◌, ℕ, List}
use Rattle.vt_key.specs.declared.letter.Mail.{Mail}
use Rattle.vt_model.specs.declared.settings.Config.{Config}
use Rattle.vt_steps.specs.promise.Letters.{Counts}
use Rattle.vt_lp.specs.inside.Held.{HeldProcess, AllWithinRun}
use Rattle.vt_outbox.specs.inside.Outbox.{HeldOutbox}
use Rattle.vt_kernel.specs.inside.Held.{IsWorkerInside, AllOwnMail, AreCounted}

module _ {S P K : Type 0} {config : Config} {w : ℕ} {processes : List (HeldProcess S P K)} {outbox : HeldOutbox P} {arrived : List (Mail P)} {sent got : Counts} {serial : ℕ} where
  inside-with : (letters : HeldOutbox P) (mails : List (Mail P)) (made_counts got_counts : Counts) → AllWithinRun config letters.letters → letters.config ≡ config → AllOwnMail config w mails → AreCounted made_counts → AreCounted got_counts →
      IsWorkerInside config w processes outbox arrived sent got serial →
      IsWorkerInside config w processes letters mails made_counts got_counts serial
  inside-with letters mails made_counts got_counts within by own few_made few_got h = record {
    known = h.known;
    all_there = h.all_there;
    own_processes = h.own_processes;
    sendable = within;
    by_worker = by;
    own_mail = own;
    few_sent = few_made;
    few_got = few_got;
    few_made = h.few_made;
  }

  -- other mail that has arrived, and other counts of what was got
  pub inside-arrived : (mails : List (Mail P)) (counts : Counts) → AllOwnMail config w mails → AreCounted counts →
      IsWorkerInside config w processes outbox arrived sent got serial →
      IsWorkerInside config w processes outbox mails sent counts serial
  inside-arrived mails counts own few h = inside-with outbox mails sent counts h.sendable h.by_worker own h.few_sent few h

  -- another outbox, and other counts of what was sent
  pub inside-outbox : (letters : HeldOutbox P) (counts : Counts) → AllWithinRun config letters.letters → letters.config ≡ config → AreCounted counts →
      IsWorkerInside config w processes outbox arrived sent got serial →
      IsWorkerInside config w processes letters arrived counts got serial
  inside-outbox letters counts within by few h = inside-with letters arrived counts got within by h.own_mail few h.few_got h
