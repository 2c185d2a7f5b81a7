-- Blocks that are owned: how owning some is joined to owning others and taken apart, and how a value of the type that
-- owns them looks to the machine. Assumes `Logic`.
use Rattle.std.proofs.Common.{◌≡◌, List, [], ◌∷◌, ◌++◌, refl, ap, arith}
use Rattle.std.specs.Prelude.{ℕ, zero, suc, ◌<◌, length, take, drop as dropped, slice_index_or}
use seplogic.Ra.Ura.{Ura}
use mir.Val.{Val, vstruct, vcons, vnil}
use mir.Raw.{raw as bare}
use base.Fraction.{full_share}
use base.Logic.{ent, sep, emp, via, fst∗, snd∗, id⊢, guard_i}
use base.Fml.{Lft, Fml, ftrue, fsep}
use contract.Monad.{fact_use}
use types.Logic.{Logic, sem}
use types.Kit.{mean, ‵, given, ◌⊛◌, ◌$◌, ◌∵◌, !, qed, move, drop, split, fsplit, fjoin, fjoin3, fpack, feq_i, use1, use2, done}
use denote.RattleType.{RattleType, Valss}
use denote.Memory.{lone}
use denote.RawPtr.{Ptr, Testable, lies_at}
use denote.Shadow.{makes_shadow}
use denote.Steps.{nothing}
use denote.Struct.Struct.{Struct, Shape, within}
use denote.Struct.Tuple.{Tuple}
use denote.Struct.Owning.{shape}
use denote.Struct.Lending.{lent_at}
use Rattle.std.proofs.GlobalToken.{dealloc_token-Testable}
use Rattle.std_alloc.specs.Box.Ownership.{box_owns}
use Rattle.vt_nodes.specs.inside.Blocks.{may_free, blocks_owned, blocks_lent, addresses, address_at}
use Rattle.vt_nodes.specs.contracts.blocks.Blocks as blocks

-- the first of some addresses, or q
abbrev head_or : Ptr → List Ptr → Ptr
head_or q [] = q
head_or q (p ∷ ps) = p

-- blocks of which one address is known are one block
pub only-block : {X : Type 0} (p : Ptr) (bs : List (Ptr × X)) → addresses bs ≡ p ∷ [] → (x : X) × (bs ≡ (p, x) ∷ [])
only-block p [] e = absurd (omega (arith, ap length e))
only-block p (b ∷ []) e = (b.1, ap (λ ps. (head_or p ps, b.1) ∷ []) e)
only-block p (b ∷ c ∷ bs) e = absurd (omega (arith, ap length e))

-- what a `Blocks` is to the machine: a struct round a struct without fields
abbrev pub no_bytes : Val
no_bytes = vstruct (vcons (vstruct vnil) vnil)

abbrev pub Bytes : RattleType → RattleType
Bytes R = Struct (shape (blocks.the_type R))

module _ {M : Type 1} {𝓤 : Ura M} (𝓛 : Logic 𝓤) (R : RattleType) where
  -- that value is made of nothing
  abbrev pub Blank : Fml
  Blank = (Bytes R).own_val (tt, tt) (no_bytes ∷ [])

  pub blank : ent 𝓤 (emp 𝓤) (sem 𝓛 Blank)
  blank = makes_shadow 𝓛 Blank (λ vss. (tt, ((λ uss. (tt, tt)), tt))) ((vstruct vnil ∷ [], tt), (refl, ((tt, (refl, tt)), tt)))

  -- who owns a block may compare with null where it lies
  pub compared : (p : Ptr) (x : R.Denot) → ent 𝓤 (sem 𝓛 (box_owns may_free R p x)) (mean 𝓛 (given (Testable p) (‵ (box_owns may_free R p x))))
  compared p x =
      let lies = sem 𝓛 (lies_at R full_share p x) in let free = sem 𝓛 (may_free (bare (lone R.mir)) p) in
      let may = via 𝓤 free (snd∗ 𝓤 lies free) (dealloc_token-Testable 𝓛 (record { memory = record { seal = tt } }) (bare (lone R.mir)) p) in
      fact_use 𝓤 (Testable p) may (guard_i 𝓤 (Testable p) (sem 𝓛 (box_owns may_free R p x)))

  -- of two lists of blocks, one
  pub joined : (bs cs : List (Ptr × R.Denot)) → ent 𝓤 (sep 𝓤 (sem 𝓛 (blocks_owned R bs)) (sem 𝓛 (blocks_owned R cs))) (sem 𝓛 (blocks_owned R (bs ++ cs)))
  joined [] cs = qed 𝓛 (‵ ftrue ∷ ‵ (blocks_owned R cs) ∷ []) ∵ drop ! $ done !
  joined (b ∷ bs) cs =
      qed 𝓛 (‵ (fsep (box_owns may_free R b.0 b.1) (blocks_owned R bs)) ∷ ‵ (blocks_owned R cs) ∷ []) ∵ fsplit ! $
      move ! (1 ∷ 2 ∷ []) $ use2 𝓛 (‵ (blocks_owned R (bs ++ cs))) (joined bs cs) $ move ! (1 ∷ 0 ∷ []) $ fjoin ! $ done !

  -- of one list, two
  pub parted : (bs cs : List (Ptr × R.Denot)) → ent 𝓤 (sem 𝓛 (blocks_owned R (bs ++ cs))) (sep 𝓤 (sem 𝓛 (blocks_owned R bs)) (sem 𝓛 (blocks_owned R cs)))
  parted [] cs = qed 𝓛 (‵ (blocks_owned R cs) ∷ []) ∵ nothing ! $ done !
  parted (b ∷ bs) cs =
      qed 𝓛 (‵ (fsep (box_owns may_free R b.0 b.1) (blocks_owned R (bs ++ cs))) ∷ []) ∵ fsplit ! $
      move ! (1 ∷ []) $ use1 𝓛 (‵ (blocks_owned R bs) ⊛ ‵ (blocks_owned R cs)) (parted bs cs) $ split ! $ move ! (2 ∷ 0 ∷ []) $ fjoin ! $ done !

  module _ (κ : Lft) where
    abbrev Lent : List (Ptr × R.Denot) → Fml
    Lent bs = blocks_lent R bs κ

    abbrev Seen : Ptr × R.Denot → Fml
    Seen b = lent_at R b.0 b.1 κ

    -- who holds a `&` to blocks holds one to the content of each
    pub seen : (bs : List (Ptr × R.Denot)) (index : ℕ) → index < length bs
        → (b : Ptr × R.Denot) × (address_at bs index ≡ b.0) × ((c : Ptr × R.Denot) → slice_index_or bs index c ≡ b) × ent 𝓤 (sem 𝓛 (Lent bs)) (sem 𝓛 (Seen b))
    seen [] index within = absurd (omega arith)
    seen (b ∷ bs) zero within = (b, refl, (λ c. refl), fst∗ 𝓤 (sem 𝓛 (Seen b)) (sem 𝓛 (Lent bs)))
    seen (b ∷ bs) (suc index) within =
        let later = seen bs index (omega arith) in
        (later.0, later.1, later.2, via 𝓤 _ (snd∗ 𝓤 (sem 𝓛 (Seen b)) (sem 𝓛 (Lent bs))) later.3)

    -- and one to all but the first n
    pub seen-drop : (n : ℕ) (bs : List (Ptr × R.Denot)) → ent 𝓤 (sem 𝓛 (Lent bs)) (sem 𝓛 (Lent (dropped n bs)))
    seen-drop zero bs = id⊢ 𝓤 _
    seen-drop (suc n) [] = id⊢ 𝓤 _
    seen-drop (suc n) (b ∷ bs) = via 𝓤 _ (snd∗ 𝓤 (sem 𝓛 (Seen b)) (sem 𝓛 (Lent bs))) (seen-drop n bs)

    -- and one to the first n
    pub seen-take : (n : ℕ) (bs : List (Ptr × R.Denot)) → ent 𝓤 (sem 𝓛 (Lent bs)) (sem 𝓛 (Lent (take n bs)))
    seen-take zero bs = qed 𝓛 (‵ (Lent bs) ∷ []) ∵ drop ! $ nothing ! $ done !
    seen-take (suc n) [] = id⊢ 𝓤 _
    seen-take (suc n) (b ∷ bs) =
        qed 𝓛 (‵ (Lent (b ∷ bs)) ∷ []) ∵ fsplit ! $
        move ! (1 ∷ []) $ use1 𝓛 (‵ (Lent (take n bs))) (seen-take n bs) $ move ! (1 ∷ 0 ∷ []) $ fjoin ! $ done !

-- ---- pairs

-- what a pair is to the machine
abbrev pub pair : Val → Val → Val
pair u v = vstruct (vcons u (vcons v vnil))

-- who owns two values owns their pair
pub paired : {M : Type 1} {𝓤 : Ura M} (𝓛 : Logic 𝓤) (P Q : RattleType) (x : P.Denot) (y : Q.Denot) (u v : Val)
    → ent 𝓤 (sep 𝓤 (sem 𝓛 (P.own_val x (u ∷ []))) (sem 𝓛 (Q.own_val y (v ∷ [])))) (sem 𝓛 ((Tuple (P ∷ Q ∷ [])).own_val (x, y) (pair u v ∷ [])))
paired 𝓛 P Q x y u v =
    let both : Shape = record { name = []; args = []; types = []; fields = P ∷ Q ∷ [] } in
    qed 𝓛 (‵ (P.own_val x (u ∷ [])) ∷ ‵ (Q.own_val y (v ∷ [])) ∷ []) ∵
    nothing ! $ move ! (1 ∷ 2 ∷ 0 ∷ []) $ fjoin3 ! $ feq_i ! (List Val) (pair u v ∷ []) (pair u v ∷ []) refl $ fjoin ! $
    fpack ! (Valss (P ∷ Q ∷ [])) (within both (x, (y, tt)) (pair u v ∷ [])) (u ∷ [], (v ∷ [], tt)) $ done !
