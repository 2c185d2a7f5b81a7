use Rattle.std.proofs.Common.{◌≡◌, ◌∙◌, ◌+◌, ◌++◌, ◌∷◌, [], ℕ, List, Option, Some, None, slice_get, map, take, length, refl, sym, ap, subst, arith}
use Rattle.std.proofs.lemmas.List.{take_more, take_all, map-append, length-map, length-take-le}
use Rattle.std.proofs.lemmas.Option.{slice_get_read, get_or_from_slice_get}
use Rattle.vt_key.specs.declared.order.Rank.{Rank}
use Rattle.vt_lp.specs.inside.Held.{HeldProcess}
use Rattle.vt_kernel.specs.inside.Choosing.{IsLeast, is_earlier, ready_of}
use Rattle.vt_kernel.proofs.ChoosingLemmas.{IsLeastSoFar, taken, left}
use Rattle.vt_kernel.proofs.choosing.first_ready.Goals.{then-is_earlier, else-is_earlier}
use Rattle.vt_kernel.proofs.choosing.first_ready.Goals as goal

pub loop-i-preserved : goal.loop-i-preserved
loop-i-preserved g c =
    let all = c.args.processes.now in
    let i = c.loop-i.i in
    let item = c.index-processes-i.result in
    let least = c.loop-i.least in
    let index = c.loop-i.index in
    let ranks = map ready_of (take i all) in
    let at : slice_get all i ≡ Some item = slice_get_read all _ i item refl c.loop-i-test.true c.index-processes-i.is in
    let more : map ready_of (take (i + 1) all) ≡ ranks ++ ready_of item ∷ [] =
    ap (map ready_of) (take_more all i item c.loop-i-test.true ∙ ap (λ (x : HeldProcess _ _ _). take i all ++ x ∷ []) (get_or_from_slice_get all i item item at))
    ∙ map-append ready_of (take i all) (item ∷ []) in
    let count : length ranks ≡ i = length-map (take i all) ready_of ∙ length-take-le i all (omega (arith, c.loop-i-test.true)) in
    let told : c.is_earlier.result ≡ is_earlier (ready_of item) least = c.is_earlier.ensures ∙ ap (λ (o : Option Rank). is_earlier o least) c.ready-ready.ensures.rank in
    elim c.if-is_earlier.branch [
      | then-is_earlier w ↦
          let so = taken ranks (ready_of item) least index c.loop-i.invariant (sym told ∙ w.if-is_earlier.true) in
          subst (λ (l : List (Option Rank)). IsLeastSoFar l c.if-is_earlier.least c.if-is_earlier.index) (sym more)
          (subst (λ (o : Option Rank). IsLeastSoFar (ranks ++ ready_of item ∷ []) o c.if-is_earlier.index) (sym (w.least-is ∙ c.ready-ready.ensures.rank))
          (subst (λ (n : ℕ). IsLeastSoFar (ranks ++ ready_of item ∷ []) (ready_of item) n) (count ∙ sym w.index-is) so))
      | else-is_earlier w ↦
          let so = left ranks (ready_of item) least index c.loop-i.invariant (sym told ∙ w.if-is_earlier.false) in
          subst (λ (l : List (Option Rank)). IsLeastSoFar l c.if-is_earlier.least c.if-is_earlier.index) (sym more)
          (subst (λ (o : Option Rank). IsLeastSoFar (ranks ++ ready_of item ∷ []) o c.if-is_earlier.index) (sym w.least-is)
          (subst (λ (n : ℕ). IsLeastSoFar (ranks ++ ready_of item ∷ []) least n) (sym w.index-is) so))
    ]

pub returns-in-None-clause-nothing : goal.returns-in-None-clause-nothing
returns-in-None-clause-nothing g c =
    let all = c.args.processes.now in
    let i = c.loop-i.i in
    let index = c.loop-i.index in
    subst (λ (ps : List (HeldProcess _ _ _)). IsLeastSoFar (map ready_of ps) None index) (take_all i all c.loop-i-test.false)
    (subst (λ (o : Option Rank). IsLeastSoFar (map ready_of (take i all)) o index) c.in-None.is c.loop-i.invariant)

pub loop-i-init : goal.loop-i-init
loop-i-init g c = λ i rank at. (let wrong : None ≡ Some (Some rank) = at in cc)

pub returns-in-Some-clause-least : goal.returns-in-Some-clause-least
returns-in-Some-clause-least g c =
    let all = c.args.processes.now in
    let i = c.loop-i.i in
    let index = c.loop-i.index in
    let least : IsLeastSoFar (map ready_of (take i all)) (Some c.in-Some.field-0) index = subst (λ (o : Option Rank). IsLeastSoFar (map ready_of (take i all)) o index) c.in-Some.is c.loop-i.invariant in
    subst (λ (ps : List (HeldProcess _ _ _)). IsLeast (map ready_of ps) index) (take_all i all c.loop-i-test.false) least.0
