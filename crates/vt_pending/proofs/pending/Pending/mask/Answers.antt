use Rattle.std.proofs.Common.{◌↔◌, IsTrue, List, subst}
use Rattle.std.specs.Prelude.{IsBitSet}
use Rattle.std.specs.List.{list_any}
use Rattle.vt_key.specs.declared.letter.Letter.{Letter}
use Rattle.vt_pending.specs.inside.Buckets.{in_bucket}
use Rattle.vt_pending.proofs.Kept.{marks-of, any-list}
use Rattle.vt_pending.proofs.pending.Pending.mask.Goals as goal

pub returns : goal.returns
returns g c b within =
    let s = c.self.inside in
    let mark = marks-of s.mask.bits s.lists _ c.self.invariant.0 b within in let any = any-list b _ in
    subst (λ (ls : List (Letter _)). IsBitSet s.mask.bits b ↔ IsTrue (list_any (in_bucket b) ls)) c.self.view_is
    ((λ set. any.0 (mark.0 set)), (λ e. mark.1 (any.1 e)))
