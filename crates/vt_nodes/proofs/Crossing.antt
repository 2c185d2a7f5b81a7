-- Blocks may go to another thread as their contents may: the allocator that frees them belongs to none.
use Rattle.std.specs.Prelude.{List, [], ◌∷◌}
use base.Shift.{Keyless}
use denote.RattleType.{RattleType}
use denote.RawPtr.{Ptr}
use denote.Struct.Struct.{exits_of}
use denote.Struct.Owning.{shape, fields, to}
use denote.Param.Send.{IsSend, AllSend, owning_send, struct_send, sendable}
use mir.Raw.{raw}
use denote.Memory.{lone}
use Rattle.std_alloc.proofs.SendSync.{lies, quiet}
use Rattle.std.proofs.Crossing.{frees}
use Rattle.vt_nodes.specs.inside.Blocks.{blocks_owned}
use Rattle.vt_nodes.specs.contracts.blocks.Blocks as Blocks

module _ (R : RattleType) (s : IsSend R) where
  blocks-Keyless : (bs : List (Ptr × R.Denot)) → Keyless (blocks_owned R bs)
  blocks-Keyless [] = tt
  blocks-Keyless (b ∷ bs) = ((lies R s b.0 b.1, frees.frees (record { memory = record { seal = tt } }) (raw (lone R.mir)) b.0), blocks-Keyless bs)

  pub Blocks-send : IsSend (Blocks.the_row R)
  Blocks-send =
      let O = Blocks.the_type R in
      let all : AllSend (fields O) = (search sendable, tt) in
      owning_send O all (λ d. blocks-Keyless d.owned) (λ k. quiet (to O) (exits_of k (fields O)) ((struct_send (shape O) all).leaving k))
