-- How a value of the type `Seen` looks to the machine: a struct round a struct without fields. Assumes `Logic`.
use Rattle.std.proofs.Common.{[], ◌∷◌, refl}
use seplogic.Ra.Ura.{Ura}
use mir.Val.{Val, vstruct, vcons, vnil}
use base.Logic.{ent, emp}
use base.Fml.{Fml}
use types.Logic.{Logic, sem}
use denote.RattleType.{RattleType}
use denote.Shadow.{makes_shadow}
use denote.Struct.Struct.{Struct}
use denote.Struct.Owning.{shape}
use Rattle.vt_key.specs.contracts.seen.Seen as seen

-- no bytes
abbrev pub no_bytes : Val
no_bytes = vstruct (vcons (vstruct vnil) vnil)

module _ {M : Type 1} {𝓤 : Ura M} (𝓛 : Logic 𝓤) (R : RattleType) where
  -- that value is made of nothing
  abbrev pub Blank : Fml
  Blank = (Struct (shape (seen.the_type R))).own_val (tt, tt) (no_bytes ∷ [])

  pub blank : ent 𝓤 (emp 𝓤) (sem 𝓛 Blank)
  blank = makes_shadow 𝓛 Blank (λ vss. (tt, ((λ uss. (tt, tt)), tt))) ((vstruct vnil ∷ [], tt), (refl, ((tt, (refl, tt)), tt)))
