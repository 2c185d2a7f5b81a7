-- `part` hands the `&` on, and what it holds of the other blocks is let go.
use Rattle.vt_nodes.proofs.Walk.{◌≡◌, ℕ, List, [], ◌∷◌, ◌++◌, refl, sym, subst, a_type, Val, vptr, inst_fn, SProp, ent, emp, id⊢, Lft, Share, Fml, ftrue, fsep, flft, WpFn, ‵, raw, ◌⊛◌, ◌$◌, ◌∵◌, !, qed, by, move, keep, split, join, fsplit, fjoin, use0, use1, use2, feq_i, feq_l, suffices, of_opd, returns, enter, alloc_all, pass_all, free_all, look_at, get, sets, tables, fact, fact_i, yes, owns, types_at, type_at, plain, RawPtr, nothing, param, layouts, Stays, stay_dropped, walk_of, Goes-dropped, proved_at, leaves}
use base.Fml.{fhide}
use denote.Opens.{unhide, hide}
use denote.Memory.{hidden_shr}
use denote.Builtin.{RefOf}
use denote.Struct.Lending.{lent_out}
use Rattle.core.specs.contracts.marker.PhantomData as phantom
use Rattle.std.specs.Prelude.{take, drop as dropped}
use Rattle.vt_nodes.specs.inside.Blocks.{blocks_lent}
use Rattle.vt_nodes.specs.contracts.blocks.Blocks as blocks
use Rattle.vt_nodes.specs.contracts.blocks.Blocks.part as this
use Rattle.vt_nodes.proofs.Owning.{Bytes, seen-drop, seen-take}
use Rattle.vt_nodes.proofs.blocks.Blocks.part.Statement.{statement}
use Rattle.vt_nodes.proofs.blocks.Blocks.part.Code as code

pub part_spec : {M : Type 1} → statement M
part_spec 𝓤 𝓛 𝓜 𝓡 wired N laws =
    let R = param 0 N in let Row = blocks.the_row R in
    let T = this.ended N in let c = this.clauses N 𝓛 𝓜.mem 𝓡.returns in
    let inst = layouts (a_type ∷ []) (N, tt) in let fn = inst_fn inst code.function in let 𝓣 = tables 𝓤 𝓛.H 𝓜 𝓡 𝓡.env in
    let self = RefOf (0 ∷ []) tt (plain (λ _. Row)) (λ _. tt) in let stays : Stays T.signature.params T.kept = (stay_dropped self yes, tt) in
    proved_at 𝓛 T stays c 𝓜 𝓡 (Goes-dropped 𝓛 2 self yes (λ κs x f. refl), tt) (this.Key.name inst) fn (code.unfolded 𝓤 𝓛.H 𝓜 𝓡 wired (N, tt)) (λ y are.
    let κs = y.0.0 in let qs = y.0.1 in let κ : Lft = κs.0 in let q : Share = qs.0 in let other_tokens : Fml = fsep (flft κs.1.0 qs.1.0) ftrue in
    let Post : Val → SProp 𝓤 = (walk_of 𝓛 T stays c).post y in let Run : List Val → SProp 𝓤 = λ vs. WpFn 𝓤 𝓛.H 𝓣.C 𝓣.Λ fn vs Post in
    let block : ℕ = y.0.3.0.ref_ptr.0 in let offset : ℕ = y.0.3.0.ref_ptr.1 in let a = y.0.3.0.now in let first : ℕ = y.1.0 in let count : ℕ = y.1.1 in
    let left : Row.Denot = record { mark = a.mark; owned = take count (dropped first a.owned) } in let Told : Type 0 = left.owned ≡ take count (dropped first a.owned) in
    let there : Val = vptr block offset in let r : (type_at T.signature.result κs).Denot = record { ref_ptr = (block, offset); now = left } in
    let vs : List Val = there ∷ [] in
    qed 𝓛 (((‵ (flft κ q) ⊛ ‵ other_tokens) ⊛ ‵ (owns (types_at T.signature.params κs) y.0.3 y.0.4)) ∷ raw ((c κs y.0.3).requires y.1) ∷ []) ∵
    split ! $ split ! $ move ! (2 ∷ []) $ fsplit ! $ fsplit ! $ feq_l ! (λ e.
    -- [what the `&` holds; true; the token of its lifetime; the other tokens; the requires]
    keep ! (0 ∷ 2 ∷ 3 ∷ []) $
    use1 𝓛 (‵ (hidden_shr (Bytes R) κ (tt, tt) block offset) ⊛ ‵ (fhide (blocks_lent R a.owned κ)))
    (lent_out 𝓛 (blocks.struct N) (blocks.the_codes N.Denot R.coded (phantom.the_row RawPtr).coded) (blocks.the_heap R) (blocks.the_lent R) κ a block offset) $
    split ! $ move ! (1 ∷ []) $ unhide ! $ use1 𝓛 (‵ (blocks_lent R (dropped first a.owned) κ)) (seen-drop 𝓛 R κ first a.owned) $
    use1 𝓛 (‵ (blocks_lent R left.owned κ)) (seen-take 𝓛 R κ count (dropped first a.owned)) $ hide ! $
    move ! (1 ∷ 0 ∷ []) $ use2 𝓛 (‵ (hidden_shr Row κ left block offset)) (id⊢ 𝓤 _) $
    suffices ! (Run vs) (subst (λ (us : List Val). ent 𝓤 (Run vs) (Run us)) (sym (λ i. e i ++ [])) (id⊢ 𝓤 (Run vs))) $
    enter ! 𝓣.C 𝓣.Λ fn vs Post $ alloc_all ! (λ l. pass_all ! refl ((tt, tt), tt) $ sets ! (of_opd ! (get ! refl)) refl (tt, tt) $
    feq_i ! (List Val) (there ∷ []) (there ∷ []) refl $ fjoin ! $ move ! (1 ∷ 2 ∷ []) $ join ! $
    -- [the tokens; the result]
    use0 𝓛 (raw (fact 𝓤 Told)) (fact_i 𝓤 Told (emp 𝓤) refl) $ nothing ! $ nothing ! $ fjoin ! $
    returns ! (look_at ! 0 refl) $ free_all ! refl $ keep ! (2 ∷ 0 ∷ 3 ∷ 1 ∷ []) $ by ! (leaves 𝓛 T stays c y there r (tt, tt) (tt, tt)))))
