-- The process that a call changes is there, and may accept its letters.
use Rattle.std.proofs.Common.{◌≡◌, ◌∙◌, ℕ, ◌+◌, ◌*◌, ◌/◌, ◌%◌, ◌<◌, true, nat_lt, List, length, sym, ap, subst, arith, Some, slice_get, slice_index_or}
use Rattle.std.proofs.Math.Nat.{div-add-mod'}
use Rattle.std.proofs.lemmas.Bool.{ltb-true}
use Rattle.std.specs.List.{find}
use Rattle.vt_key.specs.promise.Times.{TimeBefore}
use Rattle.vt_key.specs.declared.letter.Letter.{Letter}
use Rattle.vt_key.specs.declared.letter.Mail.{Mail}
use Rattle.vt_model.specs.declared.settings.Config.{Config}
use Rattle.vt_model.specs.promise.Settings.{end_of}
use Rattle.vt_steps.specs.promise.Letters.{Counts}
use Rattle.vt_steps.specs.promise.PartSteps.{is_for}
use Rattle.vt_lp.specs.inside.Held.{HeldProcess}
use Rattle.vt_kernel.proofs.Written.{get-all}
use Rattle.vt_outbox.specs.inside.Outbox.{HeldOutbox}
use Rattle.vt_kernel.specs.inside.Held.{IsWorkerInside, IsOwnMail}
use Rattle.vt_kernel.proofs.ProcessLemmas.{process-at}
use Rattle.vt_kernel.proofs.LocalLemmas.{IsOwnIndex, index-get, index-within}
use Rattle.vt_kernel.proofs.DeliveryLemmas.{found-in}

module _ {S P K : Type 0} {config : Config} {w : ℕ} {processes : List (HeldProcess S P K)} {outbox : HeldOutbox P} {arrived : List (Mail P)} {sent got : Counts} {serial : ℕ}
    (h : IsWorkerInside config w processes outbox arrived sent got serial) where
  -- the process that an index finds
  pub process-there : {p index : ℕ} {old : HeldProcess S P K} → IsOwnIndex config w p index → slice_index_or processes index old ≡ old → slice_get processes index ≡ Some old
  process-there {p} {index} {old} own found = index-get processes index old (index-within h own) found

  -- a letter for one of the worker's processes, before the end of the run, and the index of that process
  pub record IsOwnLetter (letter : Letter P) (index : ℕ) : Type 0 where
    pub own : IsOwnIndex config w letter.event.dest index
    pub soon : TimeBefore letter.event.rank.key.time (end_of config)

  -- mail that has arrived is such a letter
  pub addressed : (at : ℕ) {index : ℕ} {mail : Mail P} {now : List (Mail P)} → now ≡ arrived → nat_lt at (length now) ≡ true → mail ≡ slice_index_or now at mail
      → index ≡ mail.letter.event.dest / config.workers → (slice_get arrived at ≡ Some mail) × IsOwnLetter mail.letter index
  addressed at {mail = mail} {now = now} is inside found index_is =
      let there = index-get arrived at mail (subst (λ (l : List (Mail P)). at < length l) is (ltb-true at (length now) inside)) (sym (found ∙ ap (λ (l : List (Mail P)). slice_index_or l at mail) is)) in
      let own = get-all (IsOwnMail config w) arrived at mail h.own_mail there in
      (there, record { own = (index_is, own.own, own.within.known); soon = own.within.soon })

  -- and so is the first of the outbox for one of the worker's processes
  pub first-own : {letter taken : Letter P} {index : ℕ} → Some taken ≡ find (is_for outbox.config.workers w) outbox.letters → letter ≡ taken
      → index ≡ letter.event.dest / config.workers → (find (is_for config.workers w) outbox.letters ≡ Some letter) × IsOwnLetter letter index
  first-own {letter} found got index_is =
      let there : find (is_for config.workers w) outbox.letters ≡ Some letter =
      ap (λ (k : Config). find (is_for k.workers w) outbox.letters) (sym h.by_worker) ∙ sym found ∙ ap Some (sym got) in
      let own = found-in h letter there in
      (there, record { own = (index_is, own.0, own.1.known); soon = own.1.soon })

  -- the process at that index may accept it
  pub may-accept : {letter : Letter P} {index : ℕ} {q : HeldProcess S P K} → IsOwnLetter letter index → slice_get processes index ≡ Some q
      → (letter.event.dest ≡ q.lp) × TimeBefore letter.event.rank.key.time (end_of q.config)
  may-accept {letter} {index} {q} is at =
      let who = process-at config w 0 index processes q h.own_processes at in
      let plain : 0 + index ≡ letter.event.dest / config.workers = (let own = is.own.0 in omega (arith, own)) in (
        sym (who.0 ∙ ap (λ n. (0 + index) * config.workers + n) (sym is.own.1) ∙ ap (λ n. n * config.workers + letter.event.dest % config.workers) plain ∙ div-add-mod' letter.event.dest config.workers),
        subst (λ (k : Config). TimeBefore letter.event.rank.key.time (end_of k)) (sym who.1) is.soon,
      )
