use Rattle.std.proofs.Common.{rules, ◌≡◌, ◌≤◌, ◌∙◌, Some, None, slice_get, ap, sym, subst}
use Rattle.std.specs.Option.{option_copied}
use Rattle.vt_key.specs.promise.Keys.{Key}
use Rattle.vt_lp.proofs.RipeLemmas.{unripe_late, unripe_none}
use Rattle.vt_lp.proofs.committing.drop_ripe.Goals as goal

pub returns-then-ge : goal.returns-then-ge
returns-then-ge g c =
    let past = c.loop-first.past in
    let first = c.in-Some.first.now in
    let at : slice_get past 0 ≡ Some first = sym c.front.ensures ∙ ap option_copied c.in-Some.is in
    let late : c.args.floor ≤ first.letter.event.rank.key.time = subst (λ (k : Key). c.args.floor ≤ k.time) (sym first.keyed) (let ge : c.args.floor ≤ first.key.time = search rules in ge) in
    sym (unripe_late c.args.floor past first at late) ∙ c.loop-first.invariant

pub returns-in_default : goal.returns-in_default
returns-in_default g c =
    let past = c.loop-first.past in
    let at : slice_get past 0 ≡ None = sym c.front.ensures ∙ ap option_copied c.in_default.is in
    sym (unripe_none c.args.floor past at) ∙ c.loop-first.invariant
