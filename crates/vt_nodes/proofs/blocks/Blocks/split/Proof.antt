-- `split` parts what is owned, and runs no code but that of two empty structs.
use Rattle.vt_nodes.proofs.Walk.{◌≡◌, ℕ, List, [], ◌∷◌, ◌++◌, refl, sym, subst, a_type, Val, inst_fn, SProp, ent, emp, id⊢, ftrue, flft, WpFn, ‵, raw, ◌⊛◌, ◌$◌, ◌∵◌, !, qed, by, move, keep, split, fsplit, fjoin, use0, use1, use2, rewrite, suffices, no_more, and_then, returns, enter, alloc_all, pass_all, free_all, look_at, get, sets, agg, tables, fact, fact_i, no, owns, types_at, plain, Ptr, nothing, param, layout, layouts, param_laws, Stays, stay_dropped, walk_of, Goes-dropped, one, proved_at, leaves}
use Rattle.std.specs.Prelude.{take, drop as dropped}
use Rattle.std.proofs.lemmas.List.{take-append-drop}
use denote.Struct.Tuple.{Tuple}
use Rattle.vt_nodes.specs.inside.Blocks.{blocks_owned}
use Rattle.vt_nodes.specs.contracts.blocks.Blocks as blocks
use Rattle.vt_nodes.specs.contracts.blocks.Blocks.split as this
use Rattle.vt_nodes.proofs.Owning.{no_bytes, Blank, blank, parted, pair, paired}
use Rattle.vt_nodes.proofs.blocks.Blocks.TheLaws.{the_row_laws}
use Rattle.vt_nodes.proofs.blocks.Blocks.split.Statement.{statement}
use Rattle.vt_nodes.proofs.blocks.Blocks.split.Code as code

pub split_spec : {M : Type 1} → statement M
split_spec 𝓤 𝓛 𝓜 𝓡 wired N laws =
    let R = param 0 N in let Row = blocks.the_row R in let typed = ((the_row_laws R (param_laws 0 N laws)).lawful 𝓛).typed in
    let T = this.ended N in let c = this.clauses N 𝓛 𝓜.mem 𝓡.returns in
    let inst = layouts (a_type ∷ []) (N, tt) in let fn = inst_fn inst code.function in let 𝓣 = tables 𝓤 𝓛.H 𝓜 𝓡 𝓡.env in
    let stays : Stays T.signature.params T.kept = (stay_dropped (plain (λ _. Row)) no, tt) in
    proved_at 𝓛 T stays c 𝓜 𝓡 (Goes-dropped 𝓛 1 (plain (λ _. Row)) no (λ κs x f. refl), tt) (this.Key.name inst) fn (code.unfolded 𝓤 𝓛.H 𝓜 𝓡 wired (N, tt)) (λ y are.
    let κs = y.0.0 in let qs = y.0.1 in let a = y.0.3.0 in let count : ℕ = y.1 in
    let Post : Val → SProp 𝓤 = (walk_of 𝓛 T stays c).post y in let Run : List Val → SProp 𝓤 = λ vs. WpFn 𝓤 𝓛.H 𝓣.C 𝓣.Λ fn vs Post in
    let u = one (layout Row) y.0.4.0 (typed a y.0.4.0 are.0) in let vs : List Val = u.0 ∷ [] in
    let front : Row.Denot = record { mark = a.mark; owned = take count a.owned } in let back : Row.Denot = record { mark = a.mark; owned = dropped count a.owned } in
    let Told : Type 0 = (front.owned ≡ take count a.owned) × (back.owned ≡ dropped count a.owned) in
    qed 𝓛 (((‵ (flft κs.0 qs.0) ⊛ ‵ ftrue) ⊛ ‵ (owns (types_at T.signature.params κs) y.0.3 y.0.4)) ∷ raw ((c κs y.0.3).requires y.1) ∷ []) ∵
    split ! $ move ! (1 ∷ []) $ fsplit ! $ fsplit ! $
    -- [the bytes; the blocks; true; the tokens; the requires]
    keep ! (1 ∷ 3 ∷ []) $ rewrite ! 0 (λ (bs : List (Ptr × R.Denot)). ‵ (blocks_owned R bs)) (sym (take-append-drop count a.owned)) refl $
    use1 𝓛 (‵ (blocks_owned R front.owned) ⊛ ‵ (blocks_owned R back.owned)) (parted 𝓛 R front.owned back.owned) $ split ! $
    suffices ! (Run vs) (subst (λ (us : List Val). ent 𝓤 (Run vs) (Run us)) (sym (λ i. u.1 i ++ [])) (id⊢ 𝓤 (Run vs))) $
    enter ! 𝓣.C 𝓣.Λ fn vs Post $ alloc_all ! (λ l. pass_all ! refl (u.2, tt) $
    sets ! (agg ! (no_more !)) refl (tt, tt) $ sets ! (agg ! (and_then ! (get ! refl) (no_more !))) refl (tt, (tt, tt)) $
    sets ! (agg ! (no_more !)) refl (tt, tt) $ sets ! (agg ! (and_then ! (get ! refl) (no_more !))) refl (tt, (tt, tt)) $
    sets ! (agg ! (and_then ! (get ! refl) (and_then ! (get ! refl) (no_more !)))) refl (tt, ((tt, tt), ((tt, tt), tt))) $
    use0 𝓛 (‵ (Blank 𝓛 R)) (blank 𝓛 R) $ fjoin ! $ move ! (1 ∷ []) $ use0 𝓛 (‵ (Blank 𝓛 R)) (blank 𝓛 R) $ fjoin ! $
    -- [the back; the front; the tokens]
    move ! (1 ∷ 0 ∷ []) $ use2 𝓛 (‵ ((Tuple (Row ∷ Row ∷ [])).own_val (front, back) (pair no_bytes no_bytes ∷ []))) (paired 𝓛 Row Row front back no_bytes no_bytes) $
    use0 𝓛 (raw (fact 𝓤 Told)) (fact_i 𝓤 Told (emp 𝓤) (refl, refl)) $ nothing ! $ nothing ! $ fjoin ! $
    returns ! (look_at ! 0 refl) $ free_all ! refl $ keep ! (3 ∷ 0 ∷ 2 ∷ 1 ∷ []) $ by ! (leaves 𝓛 T stays c y (pair no_bytes no_bytes) (front, back) (tt, tt) (tt, tt))))
