-- `set_links` writes the first two fields of the node that is owned.
use Rattle.vt_nodes.proofs.Walk.{◌≡◌, List, [], ◌∷◌, ◌++◌, refl, sym, ap, ◌∙◌, subst, a_type, Val, vptr, inst_fn, SProp, ent, emp, id⊢, Lft, ftrue, flft, WpFn, ‵, raw, ◌⊛◌, ◌$◌, ◌∵◌, !, qed, by, move, keep, drop, split, fsplit, fsplit3, fjoin, use0, use1, use2, rewrite, feq_i, feq_l, suffices, of_opd, returns, enter, alloc_all, pass_all, free_all, look_at, get, sets, tables, fact, fact_i, ◌⊑◌, yes, no, owns, types_at, plain, Ptr, RawPtr, nothing, heard, param, param_laws, layout, layouts, Stays, stay_dropped, walk_of, Goes-dropped, one, proved_at, leaves}
use mir.Raw.{raw as bare}
use mir.Val.{vstruct, vcons, vnil, of_list}
use base.Fraction.{full_share}
use base.Fml.{fat}
use base.Logic.{fst∗, never}
use types.Logic.{sem}
use types.Kit.{some, at_ret, pick, fpick, fpack, fjoin3}
use types.Run.{stop, fld, assigns, assigns_last, first, blocks as enters_block, exec}
use types.ByLocal.{through, env}
use types.Part.{sub, whole, store_in}
use borrow.Table.OneValue.{part_out, part_in}
use denote.Laws.{Is, shows}
use denote.Memory.{lone, part_at}
use denote.RattleType.{Valss}
use denote.RawPtr.{block_ptr, null_ptr, ptr_val, in_a_block}
use denote.Steps.{only, peeks}
use denote.Struct.Declared.{shape, fields}
use denote.Struct.Struct.{within}
use Rattle.core.proofs.alloc.Shapes.{after}
use Rattle.std.specs.Prelude.{map}
use Rattle.std_alloc.specs.Box.Ownership.{box_owns}
use Rattle.vt_nodes.specs.inside.Blocks.{may_free, blocks_owned, addresses}
use Rattle.vt_nodes.specs.contracts.blocks.Blocks as blocks
use Rattle.vt_nodes.specs.contracts.link.Link.{the_row as Link}
use Rattle.vt_nodes.specs.contracts.node.Node as node
use Rattle.vt_nodes.specs.contracts.node.set_links as this
use Rattle.vt_nodes.proofs.Owning.{only-block, Bytes}
use Rattle.vt_nodes.proofs.blocks.Blocks.TheLaws as blocks_laws
use Rattle.vt_nodes.proofs.link.Link.TheLaws.{the_row_laws as link_laws}
use Rattle.vt_nodes.proofs.node.Node.TheLaws as node_laws
use Rattle.vt_nodes.proofs.node.set_links.Statement.{statement}
use Rattle.vt_nodes.proofs.node.set_links.Code as code

-- what a node is to the machine
abbrev words : Val → Val → Val → Val
words next prev item = vstruct (vcons next (vcons prev (vcons item vnil)))

pub set_links_spec : {M : Type 1} → statement M
set_links_spec 𝓤 𝓛 𝓜 𝓡 wired X laws =
    let R = param 0 X in let LR = param_laws 0 X laws in let NR = node.the_row R in let LN = node_laws.the_row_laws R LR in let Row = blocks.the_row NR in
    let T = this.ended X in let c = this.clauses X 𝓛 𝓜.mem 𝓡.returns in
    let inst = layouts (a_type ∷ []) (X, tt) in let fn = inst_fn inst code.function in let 𝓣 = tables 𝓤 𝓛.H 𝓜 𝓡 𝓡.env in
    let self = plain (λ _. Row) in let pointer = plain (λ _. RawPtr) in let link = plain (λ _. Link) in
    let stays : Stays T.signature.params T.kept = (stay_dropped self no, (stay_dropped pointer yes, (stay_dropped link yes, (stay_dropped link yes, tt)))) in
    let link_goes = Goes-dropped 𝓛 1 link yes (λ κs x f. refl) in
    let typed_blocks = ((blocks_laws.the_row_laws NR LN).lawful 𝓛).typed in let typed_link = (link_laws.lawful 𝓛).typed in
    proved_at 𝓛 T stays c 𝓜 𝓡 (Goes-dropped 𝓛 1 self no (λ κs x f. refl), (Goes-dropped 𝓛 1 pointer yes (λ κs x f. refl), (link_goes, (link_goes, tt))))
    (this.Key.name inst) fn (code.unfolded 𝓤 𝓛.H 𝓜 𝓡 wired (X, tt)) (λ y are.
    let κs = y.0.0 in let qs = y.0.1 in let κ : Lft = κs.0 in let a = y.0.3.0 in let p : Ptr = y.0.3.1.0 in let next : Link.Denot = y.0.3.1.1.0 in let prev : Link.Denot = y.0.3.1.1.1.0 in
    let Post : Val → SProp 𝓤 = (walk_of 𝓛 T stays c).post y in let Run : List Val → SProp 𝓤 = λ vs. WpFn 𝓤 𝓛.H 𝓣.C 𝓣.Λ fn vs Post in
    let u = one (layout Row) y.0.4.0 (typed_blocks a y.0.4.0 are.0) in
    let m = one (layout Link) y.0.4.1.1.0 (typed_link next y.0.4.1.1.0 are.1.1.0) in
    let k = one (layout Link) y.0.4.1.1.1.0 (typed_link prev y.0.4.1.1.1.0 are.1.1.1.0) in
    let Asked : Type 0 = addresses a.owned ≡ p ∷ [] in
    qed 𝓛 (((‵ (flft κ qs.0) ⊛ ‵ ftrue) ⊛ ‵ (owns (types_at T.signature.params κs) y.0.3 y.0.4)) ∷ raw (fact 𝓤 (κ ⊑ X.lives)) ∷ raw (fact 𝓤 Asked) ∷ []) ∵
    move ! (2 ∷ []) $ heard ! Asked (λ asked. let is = only-block p a.owned asked in let x : NR.Denot = is.0 in
    split ! $ move ! (1 ∷ []) $ fsplit ! $ fsplit ! $ move ! (2 ∷ []) $ fsplit3 ! $ feq_l ! (λ f.
    move ! (1 ∷ []) $ fsplit ! $
    -- [prev; true; next; bytes and blocks of self; the token; the bound]
    rewrite ! 0 (λ (us : List Val). ‵ (Link.own_val prev us)) k.1 refl $
    rewrite ! 2 (λ (us : List Val). ‵ (Link.own_val next us)) m.1 refl $
    rewrite ! 3 (λ (us : List Val). ‵ ((Bytes NR).own_val (tt, tt) us)) u.1 refl $
    keep ! (4 ∷ 2 ∷ 0 ∷ 3 ∷ 5 ∷ []) $ rewrite ! 0 (λ (bs : List (Ptr × NR.Denot)). ‵ (blocks_owned NR bs)) is.1 refl $ fsplit ! $ move ! (1 ∷ []) $ drop ! $
    in_a_block ! p (λ q. box_owns may_free NR q x) (fst∗ 𝓤 (never 𝓤) (sem 𝓛 (may_free (bare (lone NR.mir)) null_ptr))) (λ block offset e. fsplit ! $
    use1 𝓛 (some (λ (v : Val). ‵ (fat full_share (lone NR.mir) block offset v) ⊛ ‵ (NR.own_val x (v ∷ [])))) (part_out 𝓛 NR refl full_share x block offset) $ pick ! (λ v. split ! $
    -- [the node's cell; what the node owns; the right to free it; next; prev; the bytes; the token]
    move ! (1 ∷ []) $ fpick ! (λ vss. fsplit ! $ feq_l ! (λ held. fsplit3 ! $
    peeks ! Link (Is Link) (shows 𝓛 Link) x.next vss.0 (λ is_next. drop ! $ peeks ! Link (Is Link) (shows 𝓛 Link) x.prev vss.1.0 (λ is_prev. drop ! $ fsplit ! $
    peeks ! R (Is R) (shows 𝓛 R) x.item vss.1.1.0 (λ is_item.
    let m₀ = one (layout Link) vss.0 (typed_link x.next vss.0 is_next) in let n₀ = one (layout Link) vss.1.0 (typed_link x.prev vss.1.0 is_prev) in
    let w = one (layout R) vss.1.1.0 ((LR.lawful 𝓛).typed x.item vss.1.1.0 is_item) in
    rewrite ! 0 (λ (us : List Val). ‵ (R.own_val x.item us)) w.1 refl $ move ! (1 ∷ []) $ drop ! $
    move ! (1 ∷ []) $
    rewrite ! 0 (λ (s : Val). ‵ (fat full_share (lone NR.mir) block offset s)) (ap only (held ∙ (λ i. vstruct (of_list (m₀.1 i ++ (n₀.1 i ++ (w.1 i ++ [])))) ∷ []))) refl $
    -- [the cell, in words; the item; the right to free it; next; prev; the bytes; the token]
    let at : Ptr = block_ptr block offset in let vs : List Val = u.0 ∷ vptr block offset ∷ m.0 ∷ k.0 ∷ [] in let passed_pointer = f ∙ ap (λ (q : Ptr). ptr_val q ∷ []) e in
    suffices ! (Run vs) (subst (λ (us : List Val). ent 𝓤 (Run vs) (Run us)) (sym (λ i. u.1 i ++ (passed_pointer i ++ (m.1 i ++ (k.1 i ++ []))))) (id⊢ 𝓤 (Run vs))) $
    enter ! 𝓣.C 𝓣.Λ fn vs Post $ alloc_all ! (λ l. pass_all ! refl (u.2, ((tt, tt), (m.2, (k.2, tt)))) $ let E = env fn.locals l in
    first ! $ enters_block ! $
    assigns ! (of_opd ! (get ! refl)) (through ! refl (fld ! refl (stop !))) (store_in ! 0 (sub ! 0 refl (whole !)) m.2) $
    assigns_last ! (of_opd ! (get ! refl)) (through ! refl (fld ! refl (stop !))) (store_in ! 0 (sub ! 1 refl (whole !)) k.2) $
    exec ! 𝓣.C 𝓣.Λ E (after 1 fn.body) (at_ret E Post) $ sets ! (of_opd ! (get ! refl)) refl u.2 $
    let x' : NR.Denot = record x { next = next; prev = prev } in let word : Val = words m.0 k.0 w.0 in
    let made : Row.Denot = record { mark = a.mark; owned = (at, x') ∷ [] } in
    let relink : Ptr × NR.Denot → Ptr × NR.Denot = λ b. (b.0, record b.1 { next = next; prev = prev }) in let Told : Type 0 = made.owned ≡ map relink a.owned in
    nothing ! $ move ! (2 ∷ 0 ∷ []) $ fjoin ! $ move ! (3 ∷ 4 ∷ 0 ∷ []) $ fjoin3 ! $ feq_i ! (List Val) (word ∷ []) (word ∷ []) refl $ fjoin ! $
    fpack ! (Valss (fields (node.the_type R))) (within (shape (node.the_type R)) ((node.the_type R).to x') (word ∷ [])) (m.0 ∷ [], (k.0 ∷ [], (w.0 ∷ [], tt))) $
    move ! (1 ∷ 0 ∷ []) $ use2 𝓛 (‵ (part_at NR full_share x' block offset)) (part_in 𝓛 NR refl full_share x' block offset word) $ fjoin ! $ nothing ! $ move ! (1 ∷ 0 ∷ []) $ fjoin ! $
    move ! (1 ∷ 0 ∷ []) $ fjoin ! $
    -- [the result; the token]
    use0 𝓛 (raw (fact 𝓤 Told)) (fact_i 𝓤 Told (emp 𝓤) (sym (ap (map relink) is.1 ∙ (λ i. (e i, x') ∷ [])))) $
    nothing ! $ nothing ! $ fjoin ! $ nothing ! $ fjoin ! $ nothing ! $ fjoin ! $ nothing ! $ fjoin ! $
    returns ! (look_at ! 0 refl) $ free_all ! refl $ keep ! (3 ∷ 0 ∷ 2 ∷ 1 ∷ []) $ by ! (leaves 𝓛 T stays c y u.0 made (tt, (tt, (tt, (tt, tt)))) (tt, (tt, (tt, (tt, tt))))))))))))))))
