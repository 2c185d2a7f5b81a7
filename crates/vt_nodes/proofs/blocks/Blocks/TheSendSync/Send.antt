use denote.RattleType.{RattleType}
use denote.Param.Send.{IsSend}
use Rattle.vt_nodes.proofs.Crossing.{Blocks-send}
use Rattle.vt_nodes.specs.contracts.blocks.Blocks.{the_row}

pub send : (R : RattleType) → IsSend R → IsSend (the_row R)
send = Blocks-send
