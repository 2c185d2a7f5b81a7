-- `picked` makes a value without bytes, in which clauses see the list that the caller picks.
use Rattle.std.proofs.Common.{◌≡◌, [], ◌∷◌, refl}
use mir.Syntax.{a_type}
use mir.Val.{Val}
use mir.MapTy.{inst_fn}
use base.Logic.{SProp, emp}
use base.Fml.{ftrue, flft}
use types.Kit.{‵, raw, ◌⊛◌, ◌$◌, ◌∵◌, !, qed, by, keep, split, fjoin, use0}
use types.Run.{no_more, and_then, returns, enter}
use types.Part.{agg}
use types.ByLocal.{alloc_all, pass_all, free_all, look_at, get, sets}
use contract.Running.{tables}
use contract.Monad.{fact, fact_i}
use denote.Steps.{nothing}
use denote.Param.{param, layouts}
use denote.Triple.Walked.{Stays, walk_of}
use Rattle.std.proofs.raw_atomic.Walks.{proved_at, leaves}
use Rattle.vt_key.specs.contracts.seen.Seen as seen
use Rattle.vt_key.specs.contracts.seen.Seen.picked as this
use Rattle.vt_key.proofs.Blank.{no_bytes, Blank, blank}
use Rattle.vt_key.proofs.seen.Seen.picked.Statement.{statement}
use Rattle.vt_key.proofs.seen.Seen.picked.Code as code

pub picked_spec : {M : Type 1} → statement M
picked_spec 𝓤 𝓛 𝓜 𝓡 wired N laws =
    let R = param 0 N in let Row = seen.the_row R in
    let T = this.ended N in let c = this.clauses N 𝓛 𝓜.mem 𝓡.returns in
    let inst = layouts (a_type ∷ []) (N, tt) in let fn = inst_fn inst code.function in let 𝓣 = tables 𝓤 𝓛.H 𝓜 𝓡 𝓡.env in
    let stays : Stays T.signature.params T.kept = tt in
    proved_at 𝓛 T stays c 𝓜 𝓡 tt (this.Key.name inst) fn (code.unfolded 𝓤 𝓛.H 𝓜 𝓡 wired (N, tt)) (λ y are.
    let κs = y.0.0 in let qs = y.0.1 in let Post : Val → SProp 𝓤 = (walk_of 𝓛 T stays c).post y in
    let made : Row.Denot = record { mark = record {}; items = y.1 } in let Told : Type 0 = made.items ≡ y.1 in
    qed 𝓛 (((‵ (flft κs.0 qs.0) ⊛ ‵ ftrue) ⊛ ‵ ftrue) ∷ raw ((c κs y.0.3).requires y.1) ∷ []) ∵
    split ! $ keep ! (0 ∷ []) $
    enter ! 𝓣.C 𝓣.Λ fn [] Post $ alloc_all ! (λ l. pass_all ! refl tt $
    sets ! (agg ! (no_more !)) refl (tt, tt) $ sets ! (agg ! (and_then ! (get ! refl) (no_more !))) refl (tt, (tt, tt)) $
    use0 𝓛 (raw (fact 𝓤 Told)) (fact_i 𝓤 Told (emp 𝓤) refl) $
    nothing ! $ use0 𝓛 (‵ (Blank 𝓛 R)) (blank 𝓛 R) $ fjoin ! $ nothing ! $
    -- [nothing of the parameters; the result; the fact; the tokens]
    returns ! (look_at ! 0 refl) $ free_all ! refl $ keep ! (3 ∷ 0 ∷ 1 ∷ 2 ∷ []) $ by ! (leaves 𝓛 T stays c y no_bytes made tt tt)))
