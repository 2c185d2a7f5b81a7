-- Lists in some order, letters by their ranks and stamps, and what is put into such a list or taken out of it.
use Rattle.std.specs.Prelude.{Bool, List}
use Rattle.std.specs.List.{list_any, AllByRecursion}
use Rattle.vt_key.specs.inside.Order.{RankBefore}
use Rattle.vt_key.specs.promise.Lists.{IsRisingBy}
use Rattle.vt_key.specs.declared.order.Rank.{Rank}
use Rattle.vt_key.specs.declared.letter.Letter.{Letter}
use Rattle.vt_key.specs.promise.Queues.{letter_rank, has_rank}

module _ {P : Type 0} where
  -- some letter has this rank
  abbrev pub holds_rank : Rank → List (Letter P) → Bool
  holds_rank rank = list_any (has_rank rank)

  -- each of the letters has a rank after this one
  abbrev pub AllAfter : Rank → List (Letter P) → Type 0
  AllAfter rank = AllByRecursion (λ letter. RankBefore rank (letter_rank letter))

  -- the ranks of the letters rise strictly
  abbrev pub IsRising : List (Letter P) → Type 0
  IsRising = IsRisingBy (λ a b. RankBefore (letter_rank a) (letter_rank b))
