use Rattle.std.proofs.Common.{◌≡◌, ◌∙◌, ◌+◌, ◌<◌, ℕ, cond, List, get_or, length, take, refl, sym, ap, arith}
use Rattle.std.proofs.lemmas.List.{take_all}
use Rattle.std.proofs.lemmas.List.Sums.{sum_by_more}
use Rattle.vt_key.specs.declared.letter.Colour.{Colour}
use Rattle.vt_key.specs.declared.letter.Colour.TheVariants.{White, Red}
use Rattle.vt_key.specs.declared.letter.Mail.{Mail}
use Rattle.vt_steps.specs.promise.Letters.{count_colour, is_colour}
use Rattle.vt_kernel.proofs.counts.Counts.of_mail.Goals.{in-White, in-Red}
use Rattle.vt_kernel.proofs.counts.Counts.of_mail.Goals as goal

-- with one letter more, which has this colour
count-more : {P : Type 0} (colour own : Colour) (mails : List (Mail P)) (i : ℕ) (item : Mail P) → i < length mails → item ≡ get_or mails i item → item.colour ≡ own
    → count_colour colour (take (i + 1) mails) ≡ count_colour colour (take i mails) + cond (is_colour colour own) 1 0
count-more colour own mails i item less is has =
    sum_by_more (λ (m : Mail _). cond (is_colour colour m.colour) 1 0) mails i item less
    ∙ ap (λ (m : Mail _). count_colour colour (take i mails) + cond (is_colour colour m.colour) 1 0) (sym is)
    ∙ ap (λ (c : Colour). count_colour colour (take i mails) + cond (is_colour colour c) 1 0) has

pub loop-mail-init : goal.loop-mail-init
loop-mail-init g c = record { white = refl; red = refl; all = omega arith }

pub loop-mail-preserved : goal.loop-mail-preserved
loop-mail-preserved g c =
    let all = c.args.mails.now in
    let i = c.loop-mail.mail-index in
    let item = c.mail-item.result in
    let less = c.loop-mail-test.true in
    let so_far = c.loop-mail.invariant in
    elim c.match-mail.branch [
      | in-White w ↦
          let white : count_colour White (take (i + 1) all) ≡ count_colour White (take i all) + 1 = count-more White White all i item less c.mail-item.is w.in-White.is in
          let red : count_colour Red (take (i + 1) all) ≡ count_colour Red (take i all) + 0 = count-more Red White all i item less c.mail-item.is w.in-White.is in
          record {
            white = w.white-is ∙ ap (λ n. n + 1) so_far.white ∙ sym white;
            red = omega (arith, w.red-is, so_far.red, red);
            all = omega (arith, w.white-is, w.red-is, so_far.all);
          }
      | in-Red w ↦
          let white : count_colour White (take (i + 1) all) ≡ count_colour White (take i all) + 0 = count-more White Red all i item less c.mail-item.is w.in-Red.is in
          let red : count_colour Red (take (i + 1) all) ≡ count_colour Red (take i all) + 1 = count-more Red Red all i item less c.mail-item.is w.in-Red.is in
          record {
            white = omega (arith, w.white-is, so_far.white, white);
            red = w.red-is ∙ ap (λ n. n + 1) so_far.red ∙ sym red;
            all = omega (arith, w.white-is, w.red-is, so_far.all);
          }
    ]

pub returns-clause-white : goal.returns-clause-white
returns-clause-white g c = c.loop-mail.invariant.white ∙ ap (count_colour White) (take_all c.loop-mail.mail-index c.args.mails.now c.loop-mail-test.false)

pub returns-clause-red : goal.returns-clause-red
returns-clause-red g c = c.loop-mail.invariant.red ∙ ap (count_colour Red) (take_all c.loop-mail.mail-index c.args.mails.now c.loop-mail-test.false)
