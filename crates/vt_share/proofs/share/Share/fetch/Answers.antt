use Rattle.std.proofs.Common.{◌≡◌, ◌+◌, ◌∙◌, true, inl, inr, List, arith, sym, ap, subst, rules, refl}
use Rattle.vt_key.specs.declared.letter.Colour.TheVariants.{White, Red}
use Rattle.vt_key.specs.declared.letter.Mail.{Mail}
use Rattle.vt_steps.specs.promise.Letters.{is_empty, count_colour}
use Rattle.vt_steps.specs.promise.PartSteps.{part_after_fetch}
use Rattle.vt_kernel.specs.inside.Held.{HeldWorker, AllOwnMail, StandsFor}
use Rattle.vt_kernel.specs.inside.Steps.{held_after_fetch}
use Rattle.vt_pool.specs.inside.Share.{seen}
use Rattle.vt_share.specs.inside.Held.{share_of}
use Rattle.vt_kernel.proofs.EmptyLemmas.{is_empty-answer, is_empty-nothing}
use Rattle.vt_kernel.proofs.PartLemmas.{stands-fetch}
use Rattle.vt_share.proofs.share.Share.fetch.Goals as goal

pub invariant_of-self : goal.invariant_of-self
invariant_of-self g c =
    let same = ap (λ v. v.items) (sym c.swap.ensures.x_after) in
    let own = subst (λ (v : HeldWorker _ _ _). AllOwnMail v.config v.worker c.args.mail.now.items) (sym c.self.view_is) c.requires.own in
    record {
      settled = c.self.invariant.settled;
      own_mail = subst (AllOwnMail c.self.inside.pool.config c.self.inside.pool.worker) same own;
      few_sent = c.self.invariant.few_sent;
      few_got = c.in-Some.ensures.counted;
    }

pub returns-in_default-clause-refused : goal.returns-in_default-clause-refused
returns-in_default-clause-refused g c =
    let none : is_empty c.args.self.now.arrived ≡ true = ap (λ (v : HeldWorker _ _ _). is_empty v.arrived) (sym c.self.view_is) ∙ is_empty-answer c.self.inside.arrived.items _ c.is_empty.result (search rules) c.is_empty.ensures ∙ c.if-not-is_empty.false in
    let white : c.of_mail.result.white ≡ count_colour White c.args.mail.now.items = c.of_mail.ensures.white ∙ ap (count_colour White) c.as_slice.ensures.value in
    let red : c.of_mail.result.red ≡ count_colour Red c.args.mail.now.items = c.of_mail.ensures.red ∙ ap (count_colour Red) c.as_slice.ensures.value in
    let got_white : c.self.inside.got.white ≡ c.args.self.now.got.white = ap (λ (v : HeldWorker _ _ _). v.got.white) c.self.view_is in
    let got_red : c.self.inside.got.red ≡ c.args.self.now.got.red = ap (λ (v : HeldWorker _ _ _). v.got.red) c.self.view_is in
    inr (
      refl,
      none,
      elim c.in_default.ensures.passed [
        | inl a ↦ inl (omega (arith, a, white, got_white))
        | inr b ↦ inr (omega (arith, b, red, got_red))
      ],
    )

pub returns-clause-lawful : goal.returns-clause-lawful
returns-clause-lawful g c =
    (ap (λ (v : HeldWorker _ _ _). is_empty v.arrived) (sym c.self.view_is) ∙ is_empty-answer c.self.inside.arrived.items _ c.is_empty.result (search rules) c.is_empty.ensures ∙ c.if-not-is_empty.false, c.in-Some.ensures.counted)

pub returns-clause-done : goal.returns-clause-done
returns-clause-done g c handlers part s =
    let none : is_empty c.args.self.now.arrived ≡ true = ap (λ (v : HeldWorker _ _ _). is_empty v.arrived) (sym c.self.view_is) ∙ is_empty-answer c.self.inside.arrived.items _ c.is_empty.result (search rules) c.is_empty.ensures ∙ c.if-not-is_empty.false in
    let mails = c.swap.new.x.items in
    let i = c.self.inside in
    let new : HeldWorker _ _ _ = seen (share_of i.pool mails i.colour i.sent c.in-Some.got i.red_minimum i.floor) in
    let same : c.args.mail.now.items ≡ mails = ap (λ v. v.items) (sym c.swap.ensures.x_after) in
    let white : c.of_mail.result.white ≡ count_colour White mails = c.of_mail.ensures.white ∙ ap (count_colour White) (c.as_slice.ensures.value ∙ same) in
    let red : c.of_mail.result.red ≡ count_colour Red mails = c.of_mail.ensures.red ∙ ap (count_colour Red) (c.as_slice.ensures.value ∙ same) in (
      ap is_empty s.arrived ∙ none,
      subst (λ (ms : List (Mail _)). StandsFor handlers new (part_after_fetch ms part)) (sym same)
          (stands-fetch c.self.view_is handlers mails c.in-Some.got part s
          (c.in-Some.ensures.sum ∙ (λ j. record { white = c.self.inside.got.white + white j; red = c.self.inside.got.red + red j }))),
    )

pub returns-then-not-is_empty-clause-refused : goal.returns-then-not-is_empty-clause-refused
returns-then-not-is_empty-clause-refused g c =
    inl (refl, ap (λ (v : HeldWorker _ _ _). is_empty v.arrived) (sym c.self.view_is) ∙ is_empty-answer c.self.inside.arrived.items _ c.is_empty.result (search rules) c.is_empty.ensures ∙ c.if-not-is_empty.true)

pub returns-then-not-is_empty-clause-kept : goal.returns-then-not-is_empty-clause-kept
returns-then-not-is_empty-clause-kept g c = (refl, refl)

pub returns-in_default-clause-kept : goal.returns-in_default-clause-kept
returns-in_default-clause-kept g c = (refl, refl)

pub returns-clause-emptied : goal.returns-clause-emptied
returns-clause-emptied g c =
    ap (λ v. v.items) c.swap.ensures.y_after
    ∙ is_empty-nothing c.self.inside.arrived.items (is_empty-answer c.self.inside.arrived.items _ c.is_empty.result (search rules) c.is_empty.ensures ∙ c.if-not-is_empty.false)

pub returns-clause-taken : goal.returns-clause-taken
returns-clause-taken g c =
    let i = c.self.inside in
    let mails = c.args.mail.now.items in
    let same : c.swap.new.x.items ≡ mails = ap (λ v. v.items) c.swap.ensures.x_after in
    let white : c.of_mail.result.white ≡ count_colour White mails = c.of_mail.ensures.white ∙ ap (count_colour White) c.as_slice.ensures.value in
    let red : c.of_mail.result.red ≡ count_colour Red mails = c.of_mail.ensures.red ∙ ap (count_colour Red) c.as_slice.ensures.value in
    let got : c.in-Some.got ≡ record { white = i.got.white + count_colour White mails; red = i.got.red + count_colour Red mails } =
    c.in-Some.ensures.sum ∙ (λ j. record { white = i.got.white + white j; red = i.got.red + red j }) in
    (λ j. seen (share_of i.pool (same j) i.colour i.sent (got j) i.red_minimum i.floor)) ∙ ap (held_after_fetch mails) c.self.view_is
