-- `get` shows the content of one block for as long as the blocks are lent.
use Rattle.vt_nodes.proofs.Walk.{◌≡◌, ℕ, ◌<◌, List, [], ◌∷◌, ◌++◌, refl, sym, ap, ◌∙◌, subst, a_type, Val, vptr, inst_fn, SProp, ent, emp, id⊢, Lft, Share, Fml, ftrue, fsep, flft, WpFn, ‵, raw, ◌⊛◌, ◌$◌, ◌∵◌, !, qed, by, move, keep, drop, split, join, fsplit, fsplit3, fjoin, use0, use1, feq_i, feq_l, suffices, of_opd, returns, enter, alloc_all, pass_all, free_all, look_at, get, sets, tables, fact, fact_i, ◌⊑◌, yes, owns, types_at, type_at, plain, Ptr, RawPtr, nothing, heard, param, layouts, Stays, stay_dropped, walk_of, Goes-dropped, proved_at, leaves}
use base.Fml.{fhide}
use types.Kit.{at_ret}
use types.Run.{stop, addr, first, blocks as enters_block, exec}
use types.ByLocal.{through, sets_last, env}
use denote.RawPtr.{InBlock, ptr_val, block_of, count_of, at_block}
use denote.Opens.{unhide, hide}
use denote.Memory.{hidden_shr}
use denote.Builtin.{RefOf}
use denote.Struct.Lending.{lent_at, lent_out, in_block_says}
use Rattle.core.proofs.alloc.Shapes.{after}
use Rattle.core.specs.contracts.marker.PhantomData as phantom
use Rattle.std.specs.Prelude.{length, slice_index_or}
use Rattle.vt_nodes.specs.inside.Blocks.{blocks_lent, address_at}
use Rattle.vt_nodes.specs.contracts.blocks.Blocks as blocks
use Rattle.vt_nodes.specs.contracts.blocks.Blocks.get as this
use Rattle.vt_nodes.proofs.Owning.{Bytes, seen}
use Rattle.vt_nodes.proofs.blocks.Blocks.get.Statement.{statement}
use Rattle.vt_nodes.proofs.blocks.Blocks.get.Code as code

pub get_spec : {M : Type 1} → statement M
get_spec 𝓤 𝓛 𝓜 𝓡 wired N laws =
    let R = param 0 N in let Row = blocks.the_row R in
    let T = this.ended N in let c = this.clauses N 𝓛 𝓜.mem 𝓡.returns in
    let inst = layouts (a_type ∷ []) (N, tt) in let fn = inst_fn inst code.function in let 𝓣 = tables 𝓤 𝓛.H 𝓜 𝓡 𝓡.env in
    let self = RefOf (0 ∷ []) tt (plain (λ _. Row)) (λ _. tt) in let pointer = plain (λ _. RawPtr) in
    let stays : Stays T.signature.params T.kept = (stay_dropped self yes, (stay_dropped pointer yes, tt)) in
    proved_at 𝓛 T stays c 𝓜 𝓡 (Goes-dropped 𝓛 2 self yes (λ κs x f. refl), (Goes-dropped 𝓛 2 pointer yes (λ κs x f. refl), tt))
    (this.Key.name inst) fn (code.unfolded 𝓤 𝓛.H 𝓜 𝓡 wired (N, tt)) (λ y are.
    let κs = y.0.0 in let qs = y.0.1 in let κ : Lft = κs.0 in let q : Share = qs.0 in let other_tokens : Fml = fsep (flft κs.1.0 qs.1.0) ftrue in
    let Post : Val → SProp 𝓤 = (walk_of 𝓛 T stays c).post y in let Run : List Val → SProp 𝓤 = λ vs. WpFn 𝓤 𝓛.H 𝓣.C 𝓣.Λ fn vs Post in
    let block : ℕ = y.0.3.0.ref_ptr.0 in let offset : ℕ = y.0.3.0.ref_ptr.1 in let a = y.0.3.0.now in let at : Ptr = y.0.3.1.0 in let index : ℕ = y.1 in
    let Asked : Type 0 = (index < length a.owned) × (address_at a.owned index ≡ at) in
    qed 𝓛 (((‵ (flft κ q) ⊛ ‵ other_tokens) ⊛ ‵ (owns (types_at T.signature.params κs) y.0.3 y.0.4)) ∷ raw (fact 𝓤 (κs.1.0 ⊑ N.lives)) ∷ raw (fact 𝓤 Asked) ∷ []) ∵
    move ! (2 ∷ []) $ heard ! Asked (λ asked.
    let found = seen 𝓛 R κ a.owned index asked.0 in let address : Ptr = found.0.0 in let x : R.Denot = found.0.1 in let is : at ≡ address = sym asked.1 ∙ found.1 in
    split ! $ split ! $ move ! (2 ∷ []) $ fsplit3 ! $ fsplit ! $ feq_l ! (λ e. move ! (1 ∷ []) $ feq_l ! (λ f. keep ! (0 ∷ 2 ∷ 3 ∷ []) $
    -- [what the `&` holds; the token of its lifetime; the other tokens]
    use1 𝓛 (‵ (hidden_shr (Bytes R) κ (tt, tt) block offset) ⊛ ‵ (fhide (blocks_lent R a.owned κ)))
    (lent_out 𝓛 (blocks.struct N) (blocks.the_codes N.Denot R.coded (phantom.the_row RawPtr).coded) (blocks.the_heap R) (blocks.the_lent R) κ a block offset) $
    split ! $ drop ! $ unhide ! $ use1 𝓛 (‵ (lent_at R address x κ)) found.3 $ fsplit ! $
    use1 𝓛 (raw (fact 𝓤 (InBlock address))) (in_block_says 𝓛 address) $ heard ! (InBlock address) (λ inside. hide ! $
    -- [what a `&` to the content holds; the token; the other tokens]
    let there : Val = vptr (block_of address) (count_of address) in let vs : List Val = vptr block offset ∷ there ∷ [] in
    let r : (type_at T.signature.result κs).Denot = record { ref_ptr = (block_of address, count_of address); now = x } in
    let Told : Type 0 = x ≡ (slice_index_or a.owned index (at, x)).1 in
    let passed = f ∙ ap (λ (p : Ptr). ptr_val p ∷ []) (is ∙ at_block address inside) in
    suffices ! (Run vs) (subst (λ (us : List Val). ent 𝓤 (Run vs) (Run us)) (sym (λ i. e i ++ (passed i ++ []))) (id⊢ 𝓤 (Run vs))) $
    enter ! 𝓣.C 𝓣.Λ fn vs Post $ alloc_all ! (λ l. pass_all ! refl ((tt, tt), ((tt, tt), tt)) $ let E = env fn.locals l in
    first ! $ enters_block ! $ sets_last ! (addr ! (through ! refl (stop !))) refl (tt, tt) $ exec ! 𝓣.C 𝓣.Λ E (after 1 fn.body) (at_ret E Post) $
    sets ! (of_opd ! (get ! refl)) refl (tt, tt) $
    feq_i ! (List Val) (there ∷ []) (there ∷ []) refl $ fjoin ! $ move ! (1 ∷ 2 ∷ []) $ join ! $
    -- [the tokens; the result]
    use0 𝓛 (raw (fact 𝓤 Told)) (fact_i 𝓤 Told (emp 𝓤) (ap (λ (b : Ptr × R.Denot). b.1) (sym (found.2 (at, x))))) $
    nothing ! $ nothing ! $ fjoin ! $ nothing ! $ fjoin ! $
    returns ! (look_at ! 0 refl) $ free_all ! refl $ keep ! (2 ∷ 0 ∷ 3 ∷ 1 ∷ []) $ by ! (leaves 𝓛 T stays c y there r (tt, (tt, tt)) (tt, (tt, tt)))))))))
