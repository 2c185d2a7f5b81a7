use Rattle.std.proofs.Common.{◌≡◌, ℕ, ◌+◌, ◌<◌, List, [], ◌∷◌, ◌++◌, length, drop, get_or, ap, sym, ◌∙◌, arith, string_bytes}
use Rattle.std.specs.Str.{chars}
use Rattle.std.proofs.lemmas.Iterator.{YieldsList-from_chars}
use Rattle.std.proofs.lemmas.Iterator.Consumers.{YieldsList-turn, YieldsList-end}
use Rattle.std.proofs.lemmas.List.{drop_more, drop_all, length_push}
use Rattle.vt_options.proofs.ShownLemmas.{shown_more, shown_cut, shown_all}
use Rattle.vt_options.proofs.shown.shown_in.Goals as goal

-- the characters that are left begin with the next one
left_is : (cs yielded : List ℕ) (c : ℕ) → (length yielded < length cs) × (c ≡ get_or cs (length yielded) c) → drop (length yielded) cs ≡ c ∷ drop (length (yielded ++ c ∷ [])) cs
left_is cs yielded c turn =
    drop_more cs (length yielded) c turn.0 ∙ ap (λ x. x ∷ drop (length yielded + 1) cs) (sym turn.1) ∙ ap (λ k. c ∷ drop k cs) (sym (length_push yielded c))

pub returns-then-room-wide : goal.returns-then-room-wide
returns-then-room-wide c =
    let turn = YieldsList-turn (YieldsList-from_chars c.args.whole.now c.utf8.whole cc) c.loop-c.yielded _ c.loop-c.yielded_by _ _ c.in-Some.c c.in-Some.is c.next.ensures.steps in
    shown_cut _ _ _ _ _ _ _ _ (string_bytes c.loop-c.text) _ _ c.loop-c.invariant (left_is (chars c.args.whole.now) c.loop-c.yielded c.in-Some.c turn) c.in_ok-letters.ensures c.if-room-wide.true c.in_ok-push_str.ensures.bytes

pub loop-c-preserved : goal.loop-c-preserved
loop-c-preserved c =
    let turn = YieldsList-turn (YieldsList-from_chars c.args.whole.now c.utf8.whole cc) c.loop-c.yielded _ c.loop-c.yielded_by _ _ c.in-Some.c c.in-Some.is c.next.ensures.steps in
    shown_more _ _ _ _ _ _ _ _ (string_bytes c.loop-c.text) _ _ c.loop-c.invariant (left_is (chars c.args.whole.now) c.loop-c.yielded c.in-Some.c turn) c.in_ok-letters.ensures (omega (arith, c.if-room-wide.false))
    (c.in_ok-push_str-2.ensures.bytes ∙ ap (λ l. string_bytes c.loop-c.text ++ l) c.as_str.ensures.value)

pub returns : goal.returns
returns c =
    let ended = YieldsList-end (YieldsList-from_chars c.args.whole.now c.utf8.whole cc) c.loop-c.yielded _ c.loop-c.yielded_by _ _ c.in-None.is c.next.ensures.steps in
    shown_all _ _ _ _ _ _ c.loop-c.invariant (drop_all (length c.loop-c.yielded) (chars c.args.whole.now) (omega (arith, ended.1)))
