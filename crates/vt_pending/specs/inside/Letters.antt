-- Letters in the order of their ranks.
use Rattle.std.specs.Prelude.{Bool, false, not, Option, None, Some, List, find}
use Rattle.vt_key.specs.promise.Order.{rank_before}
use Rattle.vt_key.specs.promise.Queues.{without_first, has_rank, has_stamp}
use Rattle.vt_key.specs.declared.order.Rank.{Rank}
use Rattle.vt_key.specs.declared.order.Stamp.{Stamp}
use Rattle.vt_key.specs.declared.letter.Letter.{Letter}

module _ {P : Type 0} where
  -- there is a letter, and it has this rank
  abbrev pub some_has_rank : Rank → Option (Letter P) → Bool
  some_has_rank rank None = false
  some_has_rank rank (Some letter) = has_rank rank letter

  -- a letter that isn't before the rank
  abbrev pub is_reached : Rank → Letter P → Bool
  is_reached rank letter = not (rank_before letter.event.rank rank)

  -- the first letter that isn't before the rank has it
  abbrev pub reached_has : Rank → List (Letter P) → Bool
  reached_has rank letters = some_has_rank rank (find (is_reached rank) letters)

  -- the first letter that has this stamp, if there is one
  abbrev pub first_of_stamp : Stamp → List (Letter P) → Option (Letter P)
  first_of_stamp stamp = find (has_stamp stamp)

  -- the letters without the first that has this stamp, or all where none has it
  abbrev pub without_stamp : Stamp → List (Letter P) → List (Letter P)
  without_stamp stamp = without_first (has_stamp stamp)
