-- What the handlers of `Stations` give.
use Rattle.std.specs.Prelude.{◌^◌, ◌<◌}
use Rattle.vt_models.specs.declared.stations.Server.{Server}

-- both sums of a station are 64-bit numbers
abbrev pub IsServer : Server → Type 0
IsServer s = (s.length < 2 ^ 64) × (s.served < 2 ^ 64)
