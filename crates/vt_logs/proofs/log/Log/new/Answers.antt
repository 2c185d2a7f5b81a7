use Rattle.std.proofs.Common.{get_or, refl, sym, ap, subst}
use Rattle.std.specs.List.{filter}
use Rattle.vt_logs.specs.inside.Shelves.{Shelved}
use Rattle.vt_logs.specs.inside.Chains.{IsChain, is_placed_of, anywhere}
use Rattle.vt_logs.proofs.log.Log.new.Goals as goal

pub invariant_of-result : goal.invariant_of-result
invariant_of-result g c = λ p h. subst (λ xs. IsChain (get_or c.in-Ok.lasts.items p anywhere) (filter (is_placed_of p) xs)) (sym (ap (λ (v : Shelved _ _). v.placed) c.in_ok-shelf.ensures.empty)) refl
