-- `append` joins what the two own, and runs no code but that of two empty structs.
use Rattle.vt_nodes.proofs.Walk.{◌≡◌, List, [], ◌∷◌, ◌++◌, refl, sym, subst, a_type, Val, inst_fn, SProp, ent, emp, id⊢, ftrue, flft, WpFn, ‵, raw, ◌⊛◌, ◌$◌, ◌∵◌, !, qed, by, move, keep, split, fsplit, fsplit3, fjoin, use0, use2, suffices, no_more, and_then, returns, enter, alloc_all, pass_all, free_all, look_at, get, sets, agg, tables, fact, fact_i, no, owns, types_at, plain, nothing, param, layout, layouts, param_laws, Stays, stay_dropped, walk_of, Goes-dropped, one, proved_at, leaves}
use Rattle.vt_nodes.specs.inside.Blocks.{blocks_owned}
use Rattle.vt_nodes.specs.contracts.blocks.Blocks as blocks
use Rattle.vt_nodes.specs.contracts.blocks.Blocks.append as this
use Rattle.vt_nodes.proofs.Owning.{no_bytes, Blank, blank, joined}
use Rattle.vt_nodes.proofs.blocks.Blocks.TheLaws.{the_row_laws}
use Rattle.vt_nodes.proofs.blocks.Blocks.append.Statement.{statement}
use Rattle.vt_nodes.proofs.blocks.Blocks.append.Code as code

pub append_spec : {M : Type 1} → statement M
append_spec 𝓤 𝓛 𝓜 𝓡 wired N laws =
    let R = param 0 N in let Row = blocks.the_row R in let typed = ((the_row_laws R (param_laws 0 N laws)).lawful 𝓛).typed in
    let T = this.ended N in let c = this.clauses N 𝓛 𝓜.mem 𝓡.returns in
    let inst = layouts (a_type ∷ []) (N, tt) in let fn = inst_fn inst code.function in let 𝓣 = tables 𝓤 𝓛.H 𝓜 𝓡 𝓡.env in
    let stays : Stays T.signature.params T.kept = (stay_dropped (plain (λ _. Row)) no, (stay_dropped (plain (λ _. Row)) no, tt)) in
    let goes = Goes-dropped 𝓛 1 (plain (λ _. Row)) no (λ κs x f. refl) in
    proved_at 𝓛 T stays c 𝓜 𝓡 (goes, (goes, tt)) (this.Key.name inst) fn (code.unfolded 𝓤 𝓛.H 𝓜 𝓡 wired (N, tt)) (λ y are.
    let κs = y.0.0 in let qs = y.0.1 in let a = y.0.3.0 in let b = y.0.3.1.0 in
    let Post : Val → SProp 𝓤 = (walk_of 𝓛 T stays c).post y in let Run : List Val → SProp 𝓤 = λ vs. WpFn 𝓤 𝓛.H 𝓣.C 𝓣.Λ fn vs Post in
    let u = one (layout Row) y.0.4.0 (typed a y.0.4.0 are.0) in let v = one (layout Row) y.0.4.1.0 (typed b y.0.4.1.0 are.1.0) in
    let vs : List Val = u.0 ∷ v.0 ∷ [] in
    let both : Row.Denot = record { mark = a.mark; owned = a.owned ++ b.owned } in let Told : Type 0 = both.owned ≡ a.owned ++ b.owned in
    qed 𝓛 (((‵ (flft κs.0 qs.0) ⊛ ‵ ftrue) ⊛ ‵ (owns (types_at T.signature.params κs) y.0.3 y.0.4)) ∷ raw ((c κs y.0.3).requires y.1) ∷ []) ∵
    split ! $ move ! (1 ∷ []) $ fsplit3 ! $ fsplit ! $ move ! (2 ∷ []) $ fsplit ! $
    -- [bytes and blocks of the second; bytes and blocks of the first; true; the tokens; the requires]
    keep ! (3 ∷ 1 ∷ 5 ∷ []) $ use2 𝓛 (‵ (blocks_owned R both.owned)) (joined 𝓛 R a.owned b.owned) $
    suffices ! (Run vs) (subst (λ (us : List Val). ent 𝓤 (Run vs) (Run us)) (sym (λ i. u.1 i ++ (v.1 i ++ []))) (id⊢ 𝓤 (Run vs))) $
    enter ! 𝓣.C 𝓣.Λ fn vs Post $ alloc_all ! (λ l. pass_all ! refl (u.2, (v.2, tt)) $
    sets ! (agg ! (no_more !)) refl (tt, tt) $ sets ! (agg ! (and_then ! (get ! refl) (no_more !))) refl (tt, (tt, tt)) $
    use0 𝓛 (‵ (Blank 𝓛 R)) (blank 𝓛 R) $ fjoin ! $
    -- [the result; the tokens]
    use0 𝓛 (raw (fact 𝓤 Told)) (fact_i 𝓤 Told (emp 𝓤) refl) $ nothing ! $ nothing ! $ fjoin ! $ nothing ! $ fjoin ! $
    returns ! (look_at ! 0 refl) $ free_all ! refl $ keep ! (3 ∷ 0 ∷ 2 ∷ 1 ∷ []) $ by ! (leaves 𝓛 T stays c y no_bytes both (tt, (tt, tt)) (tt, (tt, tt)))))
