-- The models of the program.
use Rattle.vt_options.specs.declared.own.Chosen.{Chosen}
use Rattle.vt_options.specs.promise.Own.{GiveModel}
use Rattle.vt_options.specs.promise.Table.{Given}
use Rattle.vt_command.specs.promise.Table.{twarp_models}

-- some texts make this choice
pub record IsChoice (chosen : Chosen) : Type 0 where
  pub texts : Given
  pub given : GiveModel twarp_models texts chosen.model chosen.values.items
