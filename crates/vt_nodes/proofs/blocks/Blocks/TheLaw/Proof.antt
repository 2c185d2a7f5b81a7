-- A `&` to blocks is made from a borrow of them. Assumes `Logic`.
use Rattle.std.proofs.Common.{[], ◌++◌}
use base.Fml.{Incl-trans}
use contract.BorrowLft.{meet_⊑_left}
use denote.RattleType.{RattleType}
use denote.RawPtr.{RawPtr}
use denote.Param.Laws.{Laws}
use denote.Param.Shared.{copy_shared}
use denote.Struct.Laws.{field_copy}
use denote.Struct.Lending.{of_Lends}
use Rattle.core.specs.contracts.marker.PhantomData as phantom
use Rattle.vt_nodes.specs.contracts.blocks.Blocks as blocks
use Rattle.vt_nodes.proofs.Lending.{blocks_lent-laws, lends-blocks}
use Rattle.vt_nodes.proofs.blocks.Blocks.TheLaw.Statement.{statement}

pub shares : (N : RattleType) (L : Laws N) → statement N L
shares N L =
    let codes = blocks.the_codes N.Denot N.coded (phantom.the_row RawPtr).coded in
    let within = Incl-trans (meet_⊑_left (N.lives ++ []) []) (meet_⊑_left N.lives []) in
    of_Lends (blocks.struct N) codes (blocks.the_heap N) (blocks.the_lent N) (λ d p. blocks_lent-laws N L.shr_laws d.owned)
    (copy_shared (phantom.the_field RawPtr) (field_copy (phantom.the_type RawPtr) tt), tt)
    (λ M 𝓤 𝓛 d p. lends-blocks 𝓛 (blocks.the_row N).lives N L within d.owned)
