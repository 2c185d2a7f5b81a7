-- `from_box` calls `Box::into_raw`, and owns what that hands over.
use Rattle.vt_nodes.proofs.Walk.{◌≡◌, List, [], ◌∷◌, ◌++◌, refl, sym, ap, ◌∙◌, subst, a_type, Val, vptr, inst_fn, SProp, ent, emp, id⊢, Lft, ftrue, flft, WpFn, ‵, raw, ◌⊛◌, ◌$◌, ◌∵◌, !, qed, by, move, keep, drop, split, join, fsplit, fjoin, use0, use1, use2, rewrite, feq_i, feq_l, suffices, of_opd, no_more, and_then, returns, enter, alloc_all, pass_all, free_all, look_at, get, sets, agg, tables, fact, fact_i, ◌⊑◌, no, owns, types_at, plain, Ptr, RawPtr, nothing, heard, param, layout, Stays, stay_dropped, walk_of, one, proved_at, leaves}
use mir.Syntax.{dcons, dnil}
use mir.Raw.{raw as bare}
use base.Fraction.{full_share}
use base.Logic.{fst∗, never}
use types.Logic.{sem}
use types.Kit.{some, later, given, learn, split3, pick, await}
use types.ByLocal.{lands_as}
use contract.BorrowLft.{⊑_static}
use denote.RawPtr.{block_ptr, null_ptr, ptr_val, in_a_block, Testable}
use denote.Steps.{only}
use denote.Param.{bounded}
use denote.Param.NoDrop.{glues}
use denote.Struct.Tuple.{Tuple}
use denote.Triple.Clauses.{Lasts, lasts}
use denote.Triple.Call.{calls_at}
use denote.Triple.Spec.{triple_of}
use Rattle.core.proofs.alloc.Calls.{Goes-blank}
use Rattle.core.proofs.atomic.Steps.{fm}
use Rattle.std_alloc.specs.Box.Ownership.{box_owns}
use Rattle.std_alloc.specs.contracts.boxed.Box.into_raw as callee
use Rattle.std_alloc.proofs.boxed.Box.into_raw.Met.{met}
use Rattle.std_heap.specs.contracts.GlobalAllocator.TheImpl.{ghosts, dict as methods}
use Rattle.std_heap.proofs.GlobalAllocator.TheImpl.Met.{passed}
use Rattle.vt_nodes.specs.inside.Blocks.{may_free}
use Rattle.vt_nodes.specs.inside.Address.{IsSomewhere}
use Rattle.vt_nodes.specs.contracts.blocks.Blocks as blocks
use Rattle.vt_nodes.specs.contracts.blocks.Blocks.from_box as this
use Rattle.vt_nodes.proofs.Boxes.{Handle, handle_laws, handle_drop, Content, content_laws, Boxed, box_laws}
use Rattle.vt_nodes.proofs.Owning.{no_bytes, Blank, blank, compared, pair, paired}
use Rattle.vt_nodes.proofs.Destruct++none.drop.Code.{code as nothing_to_drop}
use Rattle.vt_nodes.proofs.blocks.Blocks.from_box.Statement.{statement}
use Rattle.vt_nodes.proofs.blocks.Blocks.from_box.Code as code

pub from_box_spec : {M : Type 1} → statement M
unfolding nothing_to_drop
from_box_spec {M = M} 𝓤 𝓛 𝓜 𝓡 wired N laws drops drop_met =
    let R = param 0 N in let Row = blocks.the_row R in let X = Content N in let typed = ((box_laws N laws).lawful 𝓛).typed in
    let T = this.ended N drops in let c = this.clauses N drops 𝓛 𝓜.mem 𝓡.returns in
    let inst = bounded (a_type ∷ []) (N, tt) (dcons drops dnil) in let fn = inst_fn inst code.function in let 𝓣 = tables 𝓤 𝓛.H 𝓜 𝓡 𝓡.env in
    let Ends = callee.ended X Handle ghosts methods handle_drop drops in
    let Call = triple_of 𝓛 (callee.signature X Handle ghosts methods handle_drop drops) (callee.spec X Handle ghosts methods handle_drop drops 𝓛 𝓜.mem 𝓡.returns) in
    let called = met 𝓤 𝓛 𝓜 𝓡 (code.calls-std_alloc::boxed::Box::into_raw 𝓡.env wired) X Handle (content_laws N laws) handle_laws ghosts methods handle_drop drops
    (passed 𝓡.env (code.calls-std_heap::GlobalAllocator::allocate 𝓡.env wired) (code.calls-std_heap::GlobalAllocator::deallocate 𝓡.env wired)
    (code.calls-std_heap::GlobalAllocator::grow 𝓡.env wired) (code.calls-std_heap::GlobalAllocator::shrink 𝓡.env wired) M 𝓤 𝓛 𝓜 𝓡)
    (glues "vt_nodes::Destruct++none::drop" 𝓡.env (code.calls-vt_nodes::Destruct++none::drop 𝓡.env wired) Handle handle_laws M 𝓤 𝓛 𝓜 𝓡) drop_met in
    let stays : Stays T.signature.params T.kept = (stay_dropped (plain (λ _. Boxed N)) no, tt) in
    proved_at 𝓛 T stays c 𝓜 𝓡 (Goes-blank 𝓛 1 (plain (λ _. Boxed N)) no (λ κs x f. tt), tt) (this.Key.name inst) fn (code.unfolded 𝓤 𝓛.H 𝓜 𝓡 wired (N, tt) drops) (λ y are.
    let κs = y.0.0 in let qs = y.0.1 in let κ : Lft = κs.0 in let a = y.0.3.0 in let x : R.Denot = a.value in
    let Post : Val → SProp 𝓤 = (walk_of 𝓛 T stays c).post y in let Run : List Val → SProp 𝓤 = λ vs. WpFn 𝓤 𝓛.H 𝓣.C 𝓣.Λ fn vs Post in
    let u = one (layout (Boxed N)) y.0.4.0 (typed a y.0.4.0 are.0) in let vs : List Val = u.0 ∷ [] in
    let z : Call.Ghost = (((κ, ([], tt)), (qs.0, (full_share, tt)), tt, (a, tt), (vs, tt)), tt) in
    let tokens = ‵ (flft κ qs.0) ⊛ ‵ (flft [] full_share) ⊛ ‵ ftrue in
    qed 𝓛 (((‵ (flft κ qs.0) ⊛ ‵ ftrue) ⊛ ‵ (owns (types_at T.signature.params κs) y.0.3 y.0.4)) ∷ raw (fact 𝓤 (κ ⊑ N.lives)) ∷ ‵ ftrue ∷ []) ∵
    move ! (1 ∷ []) $ heard ! (κ ⊑ N.lives) (λ within. split ! $ split ! $ move ! (2 ∷ []) $ fsplit ! $ keep ! (0 ∷ 2 ∷ []) $
    rewrite ! 0 (λ (us : List Val). ‵ ((Boxed N).own_val a us)) u.1 refl $
    -- [the box; the token]
    suffices ! (Run vs) (subst (λ (us : List Val). ent 𝓤 (Run vs) (Run us)) (sym (λ i. u.1 i ++ [])) (id⊢ 𝓤 (Run vs))) $
    enter ! 𝓣.C 𝓣.Λ fn vs Post $ alloc_all ! (λ l. pass_all ! refl (u.2, tt) $ sets ! (of_opd ! (get ! refl)) refl u.2 $
    nothing ! $ move ! (1 ∷ 0 ∷ []) $ fjoin ! $ nothing ! $ use0 𝓛 (‵ (flft [] full_share)) (𝓛.lfts.lft-nil full_share) $ join ! $ move ! (2 ∷ 0 ∷ []) $ join ! $ join ! $
    nothing ! $ use0 𝓛 (raw (fact 𝓤 ([] ⊑ []))) (fact_i 𝓤 ([] ⊑ []) (emp 𝓤) (⊑_static [])) $ join ! $
    use0 𝓛 (raw (fact 𝓤 (κ ⊑ N.lives))) (fact_i 𝓤 (κ ⊑ N.lives) (emp 𝓤) within) $ join ! $ move ! (1 ∷ 0 ∷ []) $ join ! $
    use1 𝓛 (raw (Call.pre z)) (id⊢ 𝓤 _) $ calls_at ! (fm 𝓛 𝓜 𝓡) Call called z (and_then ! (get ! refl) (no_more !)) (λ v.
    use1 𝓛 (later (some (λ (p : Ptr). (tokens ⊛ ‵ (RawPtr.own_val p (v ∷ []))) ⊛ some (λ (ls : Lasts Ends z.0.0 z.0.3). ‵ (lasts Ends z.0.0 z.0.3 ls) ⊛ ‵ (box_owns may_free R p x))))) (id⊢ 𝓤 _) $
    await ! tt $ pick ! (λ p. split ! $ move ! (1 ∷ []) $ pick ! (λ ls. split ! $ drop ! $
    -- [the block; the tokens and the pointer]
    in_a_block ! p (λ at. box_owns may_free R at x) (fst∗ 𝓤 (never 𝓤) (sem 𝓛 (may_free (bare (layout N)) null_ptr))) (λ block offset e.
    let at : Ptr = block_ptr block offset in let there : Val = vptr block offset in
    let made : Row.Denot = record { mark = record {}; owned = (at, x) ∷ [] } in let Told : Type 0 = made.owned ≡ (at, x) ∷ [] in
    use1 𝓛 (given (Testable at) (‵ (box_owns may_free R at x))) (compared 𝓛 R at x) $ learn ! (λ testable.
    move ! (1 ∷ []) $ split ! $ move ! (1 ∷ []) $ feq_l ! (λ f. split3 ! $ move ! (1 ∷ []) $ drop ! $ join ! $
    -- [the token; the block]
    lands_as ! (ap only f ∙ ap ptr_val e) refl (tt, tt) $
    sets ! (agg ! (no_more !)) refl (tt, tt) $ sets ! (agg ! (and_then ! (get ! refl) (no_more !))) refl (tt, (tt, tt)) $
    sets ! (agg ! (and_then ! (get ! refl) (and_then ! (get ! refl) (no_more !)))) refl (tt, ((tt, tt), (tt, tt))) $
    nothing ! $ move ! (2 ∷ 0 ∷ []) $ fjoin ! $ use0 𝓛 (‵ (Blank 𝓛 R)) (blank 𝓛 R) $ fjoin ! $
    feq_i ! (List Val) (there ∷ []) (there ∷ []) refl $ move ! (1 ∷ 0 ∷ []) $
    use2 𝓛 (‵ ((Tuple (Row ∷ RawPtr ∷ [])).own_val (made, at) (pair no_bytes there ∷ []))) (paired 𝓛 Row RawPtr made at no_bytes there) $
    -- [the result; the token]
    use0 𝓛 (raw (fact 𝓤 (IsSomewhere at))) (fact_i 𝓤 (IsSomewhere at) (emp 𝓤) (tt, testable)) $
    use0 𝓛 (raw (fact 𝓤 Told)) (fact_i 𝓤 Told (emp 𝓤) refl) $ join ! $ nothing ! $ nothing ! $ fjoin ! $
    returns ! (look_at ! 0 refl) $ free_all ! refl $ keep ! (3 ∷ 0 ∷ 2 ∷ 1 ∷ []) $ by ! (leaves 𝓛 T stays c y (pair no_bytes there) (made, at) (tt, tt) (tt, tt)))))))))))
