use Rattle.std.proofs.Common.{◌≡◌, ◌∙◌, sym, ap, Some}
use Rattle.std.specs.Prelude.{find}
use Rattle.std.specs.Option.{option_copied}
use Rattle.vt_key.specs.promise.Order.{key_same}
use Rattle.vt_key.specs.promise.Queues.{has_stamp}
use Rattle.vt_steps.specs.promise.ProcessSteps.{are_opposite}
use Rattle.vt_lp.proofs.letters.annihilate.Goals as goal

pub returns-in-Some-Some : goal.returns-in-Some-Some
unfolding key_same
returns-in-Some-Some g c =
    let minus : find (has_stamp c.args.stamp) c.args.waiting.now ≡ Some c.in-Some-Some.anti_message.now = sym c.find_stamp.ensures ∙ ap option_copied c.in-Some-Some.is-0 in
    let plus : find (has_stamp c.args.stamp) c.args.pending.now ≡ Some c.in-Some-Some.message.now = sym c.find_stamp-2.ensures ∙ ap option_copied c.in-Some-Some.is-1 in
    c.eq.ensures ∙ sym (λ j. are_opposite (minus j) (plus j))
