-- What a place has claimed.
use Rattle.std.specs.Prelude.{ℕ, List, Option, Some, None}
use Rattle.vt_key.specs.declared.letter.Mail.{Mail}
use Rattle.vt_steps.specs.promise.World.{Board, Book}
use Rattle.vt_steps.specs.inside.Cells.{Cell, in_inbox, on_board, in_book}

-- a claimed cell, and what it held when it was claimed: mail, a board or a book. All are None if no cell is claimed
pub record Hand (P : Type 0) : Type 0 where
  pub claimed : Option ℕ
  pub mail : Option (List (Mail P))
  pub board : Option Board
  pub book : Option Book

module _ {P : Type 0} where
  -- nothing is claimed
  abbrev pub empty_hand : Hand P
  empty_hand = record { claimed = None; mail = None; board = None; book = None }

  -- this cell is claimed, and held this
  abbrev pub holding : ℕ → Cell P → Hand P
  holding k (in_inbox mails) = record { claimed = Some k; mail = Some mails; board = None; book = None }
  holding k (on_board board) = record { claimed = Some k; mail = None; board = Some board; book = None }
  holding k (in_book book) = record { claimed = Some k; mail = None; board = None; book = Some book }
