use Rattle.std.proofs.Common.{◌≡◌, ◌∙◌, sym, ap, find, reverse, List, Some, None}
use Rattle.std.specs.Option.{option_copied}
use Rattle.vt_key.specs.promise.Order.{rank_same}
use Rattle.vt_key.specs.declared.letter.Letter.{Letter}
use Rattle.vt_past.specs.declared.event.PastEvent.{PastEvent}
use Rattle.vt_lp.proofs.ReachLemmas.{has-reached, is_reached, some_is_it}
use Rattle.vt_lp.proofs.ReadyLemmas.{none-is}
use Rattle.vt_lp.proofs.letters.has_executed.Goals as goal

pub returns-in-Some : goal.returns-in-Some
returns-in-Some g c =
    let past = c.args.past.now in let r = c.args.rank in
    let at : find (is_reached r) (reverse past) ≡ Some c.in-Some.event.now =
    ap (λ (es : List (PastEvent _ _)). find (is_reached r) (reverse es)) (sym c.events.ensures) ∙ sym c.find_back.ensures ∙ ap option_copied c.in-Some.is in
    c.is_same.ensures ∙ ap (λ (l : Letter _). rank_same l.event.rank r) c.get.ensures ∙ ap (some_is_it r) (sym at) ∙ has-reached r past c.requires

pub returns-in-None : goal.returns-in-None
returns-in-None g c =
    let past = c.args.past.now in let r = c.args.rank in
    let at : find (is_reached r) (reverse past) ≡ None =
    ap (λ (es : List (PastEvent _ _)). find (is_reached r) (reverse es)) (sym c.events.ensures) ∙ sym c.find_back.ensures ∙ ap option_copied c.in-None.is in
    ap (some_is_it r) (sym at) ∙ has-reached r past c.requires

pub returns-then-ends_before : goal.returns-then-ends_before
returns-then-ends_before g c = sym (none-is c.args.rank c.args.past.now c.requires (sym c.ends_before.ensures ∙ c.if-ends_before.true))
