-- Blocks can be lent: from a borrow of them comes a `&` to the content of each. Assumes `Logic`.
use Rattle.std.proofs.Common.{List, [], ◌∷◌}
use seplogic.Ra.Ura.{Ura}
use mir.Raw.{raw as bare}
use base.Fml.{Lft, ftrue, Incl}
use types.Logic.{Logic}
use denote.Memory.{lone}
use denote.RattleType.{RattleType, RowLaws}
use denote.Param.Laws.{Laws}
use denote.RawPtr.{Ptr, lies_at}
use base.Fraction.{full_share}
use denote.Sharing.{ShrLaws}
use denote.SharingLaws.{beside_shr_laws, nothing_shr_laws}
use denote.Shares.{Shares-less}
use denote.Struct.Lending.{lent_at, lent_at_shr_laws, Lends, Lends-lies, Lends-first, Lends-both, Lends-nothing}
use Rattle.std_alloc.specs.Box.Ownership.{box_owns}
use Rattle.vt_nodes.specs.inside.Blocks.{may_free, blocks_owned, blocks_lent}

-- what is lent can be copied, and lent for less long
pub blocks_lent-laws : (R : RattleType) → RowLaws R → (bs : List (Ptr × R.Denot)) → ShrLaws (blocks_lent R bs)
blocks_lent-laws R laws [] = nothing_shr_laws
blocks_lent-laws R laws (b ∷ bs) = beside_shr_laws _ _ (lent_at_shr_laws R laws b.0 b.1) (blocks_lent-laws R laws bs)

module _ {M : Type 1} {𝓤 : Ura M} (𝓛 : Logic 𝓤) (life : Lft) (R : RattleType) (laws : Laws R) (within : Incl life R.lives) where
  -- one block: its content is lent, and the right to free it waits
  lends-block : (p : Ptr) (x : R.Denot) → Lends 𝓛 (box_owns may_free R p x) (lent_at R p x) life
  lends-block p x =
      let content = Lends-lies 𝓛 R life p x (Shares-less 𝓛 R R.lives life within (laws.shares 𝓛) x) in
      Lends-first 𝓛 (lies_at R full_share p x) (may_free (bare (lone R.mir)) p) (lent_at R p x) life content

  pub lends-blocks : (bs : List (Ptr × R.Denot)) → Lends 𝓛 (blocks_owned R bs) (blocks_lent R bs) life
  lends-blocks [] = Lends-nothing 𝓛 ftrue life
  lends-blocks (b ∷ bs) =
      Lends-both 𝓛 (box_owns may_free R b.0 b.1) (blocks_owned R bs) (lent_at R b.0 b.1) (blocks_lent R bs) life (lends-block b.0 b.1) (lends-blocks bs)
