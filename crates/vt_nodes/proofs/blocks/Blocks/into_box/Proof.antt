-- `into_box` hands the block over to `Box::from_raw`.
use Rattle.vt_nodes.proofs.Walk.{◌≡◌, List, [], ◌∷◌, ◌++◌, refl, sym, ap, ◌∙◌, subst, a_type, Val, vptr, inst_fn, SProp, ent, emp, id⊢, Lft, ftrue, flft, WpFn, ‵, raw, ◌⊛◌, ◌$◌, ◌∵◌, !, qed, by, move, keep, drop, split, join, fsplit, fsplit3, fjoin, use0, use1, rewrite, feq_i, feq_l, suffices, of_opd, no_more, and_then, returns, enter, alloc_all, pass_all, free_all, look_at, get, sets, tables, fact, fact_i, ◌⊑◌, yes, no, owns, types_at, plain, Ptr, RawPtr, nothing, heard, param, param_laws, layout, layouts, Stays, stay_dropped, walk_of, Goes-dropped, one, proved_at, leaves}
use mir.Raw.{raw as bare}
use base.Fraction.{full_share}
use base.Logic.{fst∗, never}
use types.Logic.{sem}
use types.Kit.{some, later, at_ret, split3, pick, await}
use types.Run.{first, blocks as enters_block, exec}
use types.ByLocal.{lands_last, env}
use contract.BorrowLft.{⊑_static}
use denote.Laws.{Is, shows}
use denote.RawPtr.{block_ptr, null_ptr, ptr_val, in_a_block}
use denote.Steps.{only, peeks}
use denote.Param.NoDrop.{glues}
use denote.Triple.Clauses.{Lasts, lasts}
use denote.Triple.Call.{calls_at_last}
use denote.Triple.Spec.{triple_of}
use Rattle.core.proofs.alloc.Shapes.{after}
use Rattle.core.proofs.atomic.Steps.{fm}
use Rattle.core.proofs.cell.Inside.{Good}
use Rattle.std_alloc.specs.Box.Ownership.{box_owns}
use Rattle.std_alloc.specs.contracts.boxed.Box.from_raw as callee
use Rattle.std_alloc.proofs.boxed.Box.from_raw.Met.{met}
use Rattle.std_heap.specs.contracts.Global as heap
use Rattle.std_heap.proofs.Global.TheLaws as heap_laws
use Rattle.std_heap.specs.contracts.GlobalAllocator.TheImpl.{ghosts, dict as methods}
use Rattle.std_heap.proofs.GlobalAllocator.TheImpl.Met.{passed}
use Rattle.vt_nodes.specs.inside.Blocks.{may_free, blocks_owned, addresses, contents}
use Rattle.vt_nodes.specs.contracts.blocks.Blocks as blocks
use Rattle.vt_nodes.specs.contracts.blocks.Blocks.into_box as this
use Rattle.vt_nodes.proofs.Boxes.{Handle, handle_laws, handle_drop, Content, content_laws, Boxed, box_laws}
use Rattle.vt_nodes.proofs.Owning.{only-block}
use Rattle.vt_nodes.proofs.Destruct++none.drop.Code.{code as nothing_to_drop}
use Rattle.vt_nodes.proofs.blocks.Blocks.TheLaws.{the_row_laws}
use Rattle.vt_nodes.proofs.blocks.Blocks.into_box.Statement.{statement}
use Rattle.vt_nodes.proofs.blocks.Blocks.into_box.Code as code

pub into_box_spec : {M : Type 1} → statement M
unfolding nothing_to_drop
into_box_spec {M = M} 𝓤 𝓛 𝓜 𝓡 wired N laws =
    let R = param 0 N in let Row = blocks.the_row R in let X = Content N in let G = heap.the_row in
    let T = this.ended N in let c = this.clauses N 𝓛 𝓜.mem 𝓡.returns in
    let inst = layouts (a_type ∷ []) (N, tt) in let fn = inst_fn inst code.function in let 𝓣 = tables 𝓤 𝓛.H 𝓜 𝓡 𝓡.env in
    let Ends = callee.ended X Handle ghosts methods handle_drop in
    let Call = triple_of 𝓛 (callee.signature X Handle ghosts methods handle_drop) (callee.spec X Handle ghosts methods handle_drop 𝓛 𝓜.mem 𝓡.returns) in
    let called = met 𝓤 𝓛 𝓜 𝓡 (code.calls-std_alloc::boxed::Box::from_raw 𝓡.env wired) X Handle (content_laws N laws) handle_laws ghosts methods handle_drop
    (passed 𝓡.env (code.calls-std_heap::GlobalAllocator::allocate 𝓡.env wired) (code.calls-std_heap::GlobalAllocator::deallocate 𝓡.env wired)
    (code.calls-std_heap::GlobalAllocator::grow 𝓡.env wired) (code.calls-std_heap::GlobalAllocator::shrink 𝓡.env wired) M 𝓤 𝓛 𝓜 𝓡)
    (glues "vt_nodes::Destruct++none::drop" 𝓡.env (code.calls-vt_nodes::Destruct++none::drop 𝓡.env wired) Handle handle_laws M 𝓤 𝓛 𝓜 𝓡) in
    let typed_blocks = ((the_row_laws R (param_laws 0 N laws)).lawful 𝓛).typed in let typed_handle = (heap_laws.the_row_laws.lawful 𝓛).typed in let typed_box = ((box_laws N laws).lawful 𝓛).typed in
    let self = plain (λ _. Row) in let pointer = plain (λ _. RawPtr) in let handle = plain (λ _. G) in
    let stays : Stays T.signature.params T.kept = (stay_dropped self no, (stay_dropped pointer yes, (stay_dropped handle yes, tt))) in
    proved_at 𝓛 T stays c 𝓜 𝓡 (Goes-dropped 𝓛 1 self no (λ κs x f. refl), (Goes-dropped 𝓛 1 pointer yes (λ κs x f. refl), (Goes-dropped 𝓛 1 handle yes (λ κs x f. refl), tt)))
    (this.Key.name inst) fn (code.unfolded 𝓤 𝓛.H 𝓜 𝓡 wired (N, tt)) (λ y are.
    let κs = y.0.0 in let qs = y.0.1 in let κ : Lft = κs.0 in let a = y.0.3.0 in let p : Ptr = y.0.3.1.0 in let h = y.0.3.1.1.0 in
    let Post : Val → SProp 𝓤 = (walk_of 𝓛 T stays c).post y in let Run : List Val → SProp 𝓤 = λ vs. WpFn 𝓤 𝓛.H 𝓣.C 𝓣.Λ fn vs Post in
    let u = one (layout Row) y.0.4.0 (typed_blocks a y.0.4.0 are.0) in let w = one (layout G) y.0.4.1.1.0 (typed_handle h y.0.4.1.1.0 are.1.1.0) in
    let Asked : Type 0 = addresses a.owned ≡ p ∷ [] in
    qed 𝓛 (((‵ (flft κ qs.0) ⊛ ‵ ftrue) ⊛ ‵ (owns (types_at T.signature.params κs) y.0.3 y.0.4)) ∷ raw (fact 𝓤 (κ ⊑ N.lives)) ∷ raw (fact 𝓤 Asked) ∷ []) ∵
    move ! (1 ∷ []) $ heard ! (κ ⊑ N.lives) (λ within. move ! (1 ∷ []) $ heard ! Asked (λ asked. let is = only-block p a.owned asked in let x : R.Denot = is.0 in
    split ! $ split ! $ move ! (2 ∷ []) $ fsplit ! $ fsplit ! $ move ! (2 ∷ []) $ fsplit3 ! $ feq_l ! (λ f.
    -- [the handle; true; bytes and blocks of self; the token; true]
    move ! (3 ∷ []) $ rewrite ! 0 (λ (bs : List (Ptr × R.Denot)). ‵ (blocks_owned R bs)) is.1 refl $ fsplit ! $
    rewrite ! 2 (λ (us : List Val). ‵ (G.own_val h us)) w.1 refl $
    in_a_block ! p (λ at. box_owns may_free R at x) (fst∗ 𝓤 (never 𝓤) (sem 𝓛 (may_free (bare (layout N)) null_ptr))) (λ block offset e.
    let at : Ptr = block_ptr block offset in let there : Val = vptr block offset in let vs : List Val = u.0 ∷ there ∷ w.0 ∷ [] in let passed_pointer = f ∙ ap (λ (q : Ptr). ptr_val q ∷ []) e in
    let z : Call.Ghost = (((κ, ([], tt)), (qs.0, (full_share, tt)), tt, (h, (at, tt)), (w.0 ∷ [], (there ∷ [], tt))), x) in
    let tokens = ‵ (flft κ qs.0) ⊛ ‵ (flft [] full_share) ⊛ ‵ ftrue in
    keep ! (0 ∷ 2 ∷ 5 ∷ []) $
    -- [the block; the handle; the token]
    suffices ! (Run vs) (subst (λ (us : List Val). ent 𝓤 (Run vs) (Run us)) (sym (λ i. u.1 i ++ (passed_pointer i ++ (w.1 i ++ [])))) (id⊢ 𝓤 (Run vs))) $
    enter ! 𝓣.C 𝓣.Λ fn vs Post $ alloc_all ! (λ l. pass_all ! refl (u.2, ((tt, tt), (w.2, tt))) $ let E = env fn.locals l in
    nothing ! $ feq_i ! (List Val) (there ∷ []) (there ∷ []) refl $ fjoin ! $ move ! (2 ∷ 0 ∷ []) $ fjoin ! $
    nothing ! $ use0 𝓛 (‵ (flft [] full_share)) (𝓛.lfts.lft-nil full_share) $ join ! $ move ! (3 ∷ 0 ∷ []) $ join ! $ move ! (0 ∷ 1 ∷ []) $ join ! $
    move ! (1 ∷ []) $ use0 𝓛 (raw (fact 𝓤 ([] ⊑ []))) (fact_i 𝓤 ([] ⊑ []) (emp 𝓤) (⊑_static [])) $ join ! $
    use0 𝓛 (raw (fact 𝓤 (κ ⊑ N.lives))) (fact_i 𝓤 (κ ⊑ N.lives) (emp 𝓤) within) $ join ! $ move ! (1 ∷ 0 ∷ []) $ join ! $
    use1 𝓛 (raw (Call.pre z)) (id⊢ 𝓤 _) $ first ! $ enters_block ! $ calls_at_last ! (fm 𝓛 𝓜 𝓡) Call called z (and_then ! (get ! refl) (and_then ! (get ! refl) (no_more !))) (λ v.
    use1 𝓛 (later (some (λ (r : (Boxed N).Denot). (tokens ⊛ ‵ ((Boxed N).own_val r (v ∷ []))) ⊛
    some (λ (ls : Lasts Ends z.0.0 z.0.3). ‵ (lasts Ends z.0.0 z.0.3 ls) ⊛ (raw (fact 𝓤 (r.value ≡ x)) ⊛ raw (fact 𝓤 (r.alloc ≡ h))))))) (id⊢ 𝓤 (Call.post z v)) $
    await ! tt $ pick ! (λ r. split ! $ move ! (1 ∷ []) $ pick ! (λ ls. split3 ! $ drop ! $ heard ! (r.value ≡ x) (λ same. drop ! $
    split ! $ split3 ! $ move ! (1 ∷ []) $ drop ! $ join ! $ move ! (1 ∷ []) $
    -- [the box; the token]
    peeks ! (Boxed N) (Is (Boxed N)) (shows 𝓛 (Boxed N)) r (v ∷ []) (λ is_box.
    let g = one (layout (Boxed N)) (v ∷ []) (typed_box r (v ∷ []) is_box) in let good : Good (layout (Boxed N)) v = subst (Good (layout (Boxed N))) (sym (ap only g.1)) g.2 in
    let Told : Type 0 = contents a.owned ≡ r.value ∷ [] in
    lands_last ! refl good $ exec ! 𝓣.C 𝓣.Λ E (after 1 fn.body) (at_ret E Post) $ sets ! (of_opd ! (get ! refl)) refl good $
    use0 𝓛 (raw (fact 𝓤 Told)) (fact_i 𝓤 Told (emp 𝓤) (ap contents is.1 ∙ ap (λ (c : R.Denot). c ∷ []) (sym same))) $
    nothing ! $ nothing ! $ fjoin ! $ nothing ! $ fjoin ! $ nothing ! $ fjoin ! $
    returns ! (look_at ! 0 refl) $ free_all ! refl $ keep ! (3 ∷ 0 ∷ 2 ∷ 1 ∷ []) $ by ! (leaves 𝓛 T stays c y v r (tt, (tt, (tt, tt))) (tt, (tt, (tt, tt)))))))))))))))
