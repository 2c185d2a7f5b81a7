-- The cells of a station: which cell of a world each is, and what its slot holds.
use Rattle.std.specs.Prelude.{◌≡◌, ℕ, ◌+◌, ◌*◌, nat_lt, nat_eq, if◌then◌else◌}
use Rattle.vt_model.specs.declared.settings.Config.{Config}
use Rattle.vt_model.specs.promise.Settings.{end_of}
use Rattle.vt_steps.specs.inside.Cells.{CellName, inbox_of, board_cell, book_cell, Cell, in_inbox, on_board, in_book}
use Rattle.vt_kernel.specs.inside.Held.{AllOwnMail}
use Rattle.vt_places.specs.declared.slot.Slot.{Slot}
use Rattle.vt_places.specs.declared.slot.Slot.TheVariants.{Inbox, Board, Book}

-- how many cells a station of so many workers has: an inbox for each, the board, and the book
abbrev pub cell_count : ℕ → ℕ
cell_count workers = workers + 2

-- the word of cell k. The words between are never read: so each that is used lies alone in two lines of the cache
abbrev pub word_at : ℕ → ℕ
word_at k = 16 * k

-- what the word of a cell says: nobody has claimed it, and an inbox is empty; a place has claimed it; nobody has claimed it, and it
-- may hold anything
abbrev pub empty_word : ℕ
empty_word = 0

abbrev pub claimed_word : ℕ
claimed_word = 1

abbrev pub home_word : ℕ
home_word = 2

-- cell k: first the inboxes by worker, then the board, then the book
abbrev pub cell_at : ℕ → ℕ → CellName
cell_at workers k = if nat_lt k workers then inbox_of k else if nat_eq k workers then board_cell else book_cell

-- what a slot holds, as the definitions know it
abbrev pub held_in : {P : Type 0} → Slot P → Cell P
held_in (Inbox mails) = in_inbox mails.items
held_in (Board board) = on_board board.board
held_in (Book book) = in_book book.book

-- what is known of the slot of cell k beside: its mail is for worker k, and its board or book is of the run. Where there is one
-- worker, the book has handed no record out
abbrev pub IsSlotOf : {P : Type 0} → Config → ℕ → Slot P → Type 0
IsSlotOf config k (Inbox mails) = AllOwnMail config k mails.items
IsSlotOf config k (Board board) = board.end ≡ (end_of config)
IsSlotOf config k (Book book) = (book.end ≡ (end_of config)) × (config.workers ≡ 1 → book.handed_out ≡ 0)
