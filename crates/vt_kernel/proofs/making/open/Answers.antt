use Rattle.std.proofs.Common.{◌≡◌, ◌≤◌, ◌∙◌, ◌++◌, refl, sym, ap, subst, arith}
use Rattle.std.proofs.lemmas.List.Elements.{All-nil}
use Rattle.vt_key.specs.declared.limits.TheConstants.{MAX_COUNT}
use Rattle.vt_steps.specs.promise.Letters.{Counts}
use Rattle.vt_lp.specs.inside.Held.{AllWithinRun}
use Rattle.vt_outbox.specs.inside.Outbox.{HeldOutbox}
use Rattle.vt_kernel.specs.inside.Held.{AllOwnMail, IsOwnMail, AreCounted}
use Rattle.vt_kernel.proofs.MakeLemmas.{stand-opening}
use Rattle.vt_kernel.proofs.making.open.Goals as goal

none_counted : (counts : Counts) → counts ≡ record { white = 0; red = 0 } → AreCounted counts
none_counted counts is = subst AreCounted (sym is) (record { white = omega arith; red = omega arith })

pub invariant_of-result : goal.invariant_of-result
invariant_of-result g c =
    let config = c.args.config in
    let made = c.in_ok-processes.ensures in
    let few : c.start_all.new.serial ≤ MAX_COUNT = omega (arith, made.serial, c.requires.fits) in
    let put : c.put.new.self.letters ≡ c.start_all.new.outbox = ap (λ (o : HeldOutbox _). o.letters) c.put.ensures ∙ ap (λ (o : HeldOutbox _). o.letters ++ c.start_all.new.outbox) c.in_ok-outbox.ensures.empty in
    record {
      known = c.requires.known;
      all_there = made.count;
      own_processes = made.processes;
      sendable = subst (AllWithinRun config) (sym put) made.within;
      by_worker = ap (λ (o : HeldOutbox _). o.config) (c.put.ensures ∙ ap (λ (o : HeldOutbox _). record o { letters = o.letters ++ c.start_all.new.outbox }) c.in_ok-outbox.ensures.empty);
      own_mail = subst (AllOwnMail config c.args.w) (sym c.new-2.ensures.items) (All-nil (IsOwnMail config c.args.w));
      few_sent = none_counted c.new-3.result c.new-3.ensures;
      few_got = none_counted c.new-4.result c.new-4.ensures;
      few_made = few;
    }

pub returns-clause-opening : goal.returns-clause-opening
returns-clause-opening g c =
    let handlers = g.M.Model.handlers c.args.model.now in
    let items = c.in_ok-processes.processes.items in
    let made = c.in_ok-processes.ensures in
    record {
      processes = stand-opening handlers c.args.config c.args.w _ items made.processes made.started made.count;
      outbox = sym (ap (λ (o : HeldOutbox _). o.letters) c.put.ensures ∙ ap (λ (o : HeldOutbox _). o.letters ++ c.start_all.new.outbox) c.in_ok-outbox.ensures.empty ∙ made.outbox);
      arrived = sym c.new-2.ensures.items;
      colour = refl;
      sent = sym c.new-3.ensures;
      got = sym c.new-4.ensures;
      red_minimum = sym c.end.ensures;
      floor = sym c.tick.ensures;
      serial = sym made.serial;
    }
