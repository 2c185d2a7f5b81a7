-- How an executed event becomes a past one, and the rank of the last one.
use Rattle.std.specs.Prelude.{refl, List, Option, Some, None}
use Rattle.std.specs.List.{last_or}
use Rattle.vt_key.specs.declared.order.Rank.{Rank}
use Rattle.vt_key.specs.declared.letter.Letter.{Letter}
use Rattle.vt_model.specs.declared.rows.Record.{Record}
use Rattle.vt_past.specs.declared.event.PastEvent.{PastEvent}
use Rattle.vt_past.specs.declared.event.UndoEntry.{UndoEntry}

module _ {P K : Type 0} where
  -- the past event of this letter, which left this undo entry and these records
  abbrev pub past_event : Letter P → UndoEntry P K → List Record → PastEvent P K
  past_event letter undo_entry records = record {
    key = letter.event.rank.key;
    letter = letter;
    undo_entry = undo_entry;
    records = records;
    keyed = refl;
  }

  -- the rank of the last past event, if there is one
  abbrev pub rank_of_last : Option (PastEvent P K) → Option Rank
  rank_of_last None = None
  rank_of_last (Some last) = Some last.letter.event.rank

  abbrev pub last_rank : List (PastEvent P K) → Option Rank
  last_rank past = rank_of_last (last_or None past)
