-- How much mail travels between workers.
use Rattle.std.specs.Prelude.{ℕ}
use Rattle.std.specs.List.{sum_by}
use Rattle.vt_key.specs.declared.letter.Colour.{Colour}
use Rattle.vt_steps.specs.promise.Letters.{count_colour}
use Rattle.vt_steps.specs.promise.World.{World}

module _ {P : Type 0} where
  -- how much mail of a colour is travelling: in all inboxes
  abbrev pub travelling : Colour → World P → ℕ
  travelling colour world = sum_by (count_colour colour) world.inboxes
