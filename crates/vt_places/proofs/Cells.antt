-- Hands, and the names of a station's cells.
use Rattle.std.proofs.Common.{◌≡◌, ◌≢◌, ◌⊎◌, inl, inr, ℕ, ◌+◌, ◌<◌, true, false, cond, List, refl, sym, ◌∙◌, ap, arith, nat_lt, nat_eq, Option, Some, None, slice_get}
use Rattle.std.specs.Option.{option_map}
use Rattle.std.proofs.lemmas.Bool.Decides.{nat_tests}
use Rattle.vt_key.specs.declared.letter.Mail.{Mail}
use Rattle.vt_steps.specs.promise.World.{Book, World}
use Rattle.vt_steps.specs.inside.Cells.{CellName, inbox_of, board_cell, book_cell, Cell, in_inbox, on_board, in_book, content}
use Rattle.vt_places.specs.inside.Hands.{Hand, empty_hand, holding}
use Rattle.vt_places.specs.inside.Slots.{cell_count, word_at, cell_at}

-- ---- hands

module _ {P : Type 0} where
  pub hand-claims : (k : ℕ) (cell : Cell P) → (holding k cell).claimed ≡ Some k
  hand-claims k (in_inbox mails) = refl
  hand-claims k (on_board board) = refl
  hand-claims k (in_book book) = refl

  -- a hand that holds a cell is not empty
  pub not-empty : (h : Hand P) (k : ℕ) (cell : Cell P) → h ≡ empty_hand → h ≡ holding k cell → ⊥
  not-empty h k cell e f =
      let a : None ≡ Some k = ap (λ (x : Hand P). x.claimed) (sym e ∙ f) ∙ hand-claims k cell in
      absurd cc

  -- it holds one cell
  pub same-cell_held : (k j : ℕ) (c d : Cell P) → holding k c ≡ holding j d → j ≡ k
  same-cell_held k j c d e =
      let a : Some k ≡ Some j = sym (hand-claims k c) ∙ ap (λ (x : Hand P). x.claimed) e ∙ hand-claims j d in
      cc

  -- which held one thing
  pub same-found : (k j : ℕ) (c d : Cell P) → holding k c ≡ holding j d → c ≡ d
  same-found k j (in_inbox a) (in_inbox b) e = let h : Some a ≡ Some b = ap (λ (x : Hand P). x.mail) e in let s : a ≡ b = cc in ap in_inbox s
  same-found k j (on_board a) (on_board b) e = let h : Some a ≡ Some b = ap (λ (x : Hand P). x.board) e in let s : a ≡ b = cc in ap on_board s
  same-found k j (in_book a) (in_book b) e = let h : Some a ≡ Some b = ap (λ (x : Hand P). x.book) e in let s : a ≡ b = cc in ap in_book s
  same-found k j (in_inbox a) (on_board b) e = absurd (let h : Some a ≡ None = ap (λ (x : Hand P). x.mail) e in cc)
  same-found k j (in_inbox a) (in_book b) e = absurd (let h : Some a ≡ None = ap (λ (x : Hand P). x.mail) e in cc)
  same-found k j (on_board a) (in_inbox b) e = absurd (let h : Some a ≡ None = ap (λ (x : Hand P). x.board) e in cc)
  same-found k j (on_board a) (in_book b) e = absurd (let h : Some a ≡ None = ap (λ (x : Hand P). x.board) e in cc)
  same-found k j (in_book a) (in_inbox b) e = absurd (let h : Some a ≡ None = ap (λ (x : Hand P). x.book) e in cc)
  same-found k j (in_book a) (on_board b) e = absurd (let h : Some a ≡ None = ap (λ (x : Hand P). x.book) e in cc)

-- ---- names

pub inbox-name : (workers k : ℕ) → k < workers → cell_at workers k ≡ inbox_of k
inbox-name workers k less =
    let test : nat_lt k workers ≡ true = grind (arith, nat_tests) in
    ap (λ b. cond b (inbox_of k) (cond (nat_eq k workers) board_cell book_cell)) test

pub board-name : (workers k : ℕ) → k ≡ workers → cell_at workers k ≡ board_cell
board-name workers k is =
    let test : nat_lt k workers ≡ false = grind (arith, nat_tests) in
    let same : nat_eq k workers ≡ true = grind (arith, nat_tests) in
    ap (λ b. cond b (inbox_of k) (cond (nat_eq k workers) board_cell book_cell)) test ∙ ap (λ b. cond b board_cell book_cell) same

pub book-name : (workers k : ℕ) → workers < k → cell_at workers k ≡ book_cell
book-name workers k more =
    let test : nat_lt k workers ≡ false = grind (arith, nat_tests) in
    let same : nat_eq k workers ≡ false = grind (arith, nat_tests) in
    ap (λ b. cond b (inbox_of k) (cond (nat_eq k workers) board_cell book_cell)) test ∙ ap (λ b. cond b board_cell book_cell) same

-- two cells have two words
pub words-apart : (j k : ℕ) → j ≢ k → word_at j ≢ word_at k
words-apart j k apart same = apart (omega arith)

-- two cells have two names
pub names-apart : (workers k j : ℕ) → k < cell_count workers → j < cell_count workers → j ≢ k → cell_at workers j ≡ cell_at workers k → ⊥
names-apart workers k j near_k near_j apart same =
    by_kind (kind k near_k) (kind j near_j)
  where
    kind : (i : ℕ) → i < cell_count workers → (i < workers) ⊎ ((i ≡ workers) ⊎ (i ≡ workers + 1))
    kind i near = elim (nat_lt i workers) as (λ b. nat_lt i workers ≡ b → (i < workers) ⊎ ((i ≡ workers) ⊎ (i ≡ workers + 1))) [
      | true ↦ λ is. inl (let h : i < workers = grind (arith, nat_tests) in h)
      | false ↦ λ is. elim (nat_eq i workers) as (λ b. nat_eq i workers ≡ b → (i < workers) ⊎ ((i ≡ workers) ⊎ (i ≡ workers + 1))) [
        | true ↦ λ e. inr (inl (let h : i ≡ workers = grind (arith, nat_tests) in h))
        | false ↦ λ e. inr (inr (let h : i ≡ workers + 1 = grind (arith, nat_tests) in h))
      ] refl
    ] refl

    by_kind : (k < workers) ⊎ ((k ≡ workers) ⊎ (k ≡ workers + 1)) → (j < workers) ⊎ ((j ≡ workers) ⊎ (j ≡ workers + 1)) → ⊥
    by_kind (inl a) (inl b) = let h : inbox_of j ≡ inbox_of k = sym (inbox-name workers j b) ∙ same ∙ inbox-name workers k a in let e : j ≡ k = cc in apart e
    by_kind (inl a) (inr (inl b)) = absurd (let h : board_cell ≡ inbox_of k = sym (board-name workers j b) ∙ same ∙ inbox-name workers k a in cc)
    by_kind (inl a) (inr (inr b)) = absurd (let h : book_cell ≡ inbox_of k = sym (book-name workers j (omega arith)) ∙ same ∙ inbox-name workers k a in cc)
    by_kind (inr (inl a)) (inl b) = absurd (let h : inbox_of j ≡ board_cell = sym (inbox-name workers j b) ∙ same ∙ board-name workers k a in cc)
    by_kind (inr (inl a)) (inr (inl b)) = apart (b ∙ sym a)
    by_kind (inr (inl a)) (inr (inr b)) = absurd (let h : book_cell ≡ board_cell = sym (book-name workers j (omega arith)) ∙ same ∙ board-name workers k a in cc)
    by_kind (inr (inr a)) (inl b) = absurd (let h : inbox_of j ≡ book_cell = sym (inbox-name workers j b) ∙ same ∙ book-name workers k (omega arith) in cc)
    by_kind (inr (inr a)) (inr (inl b)) = absurd (let h : board_cell ≡ book_cell = sym (board-name workers j b) ∙ same ∙ book-name workers k (omega arith) in cc)
    by_kind (inr (inr a)) (inr (inr b)) = apart (b ∙ sym a)

-- ---- what a cell of a name holds

module _ {P : Type 0} (world : World P) where
  mail-there : (o : Option (List (Mail P))) (cell : Cell P) → option_map in_inbox o ≡ Some cell → (mails : List (Mail P)) × (cell ≡ in_inbox mails) × (o ≡ Some mails)
  mail-there None cell e = absurd (let h : None ≡ Some cell = e in cc)
  mail-there (Some mails) cell e = (mails, (let h : Some (in_inbox mails) ≡ Some cell = e in let s : cell ≡ in_inbox mails = cc in s), refl)

  -- an inbox holds mail
  pub inbox-holds : (w : ℕ) (cell : Cell P) → content world (inbox_of w) ≡ Some cell → (mails : List (Mail P)) × (cell ≡ in_inbox mails) × (slice_get world.inboxes w ≡ Some mails)
  inbox-holds w cell e = mail-there (slice_get world.inboxes w) cell e

  pub board-holds : (cell : Cell P) → content world board_cell ≡ Some cell → cell ≡ on_board world.board
  board-holds cell e = let h : Some (on_board world.board) ≡ Some cell = e in let s : cell ≡ on_board world.board = cc in s

  pub book-holds : (cell : Cell P) → content world book_cell ≡ Some cell → cell ≡ in_book world.book
  book-holds cell e = let h : Some (in_book world.book) ≡ Some cell = e in let s : cell ≡ in_book world.book = cc in s

  -- a cell with a book is the world's
  pub holds-book : (name : CellName) (book : Book) → content world name ≡ Some (in_book book) → world.book ≡ book
  holds-book (inbox_of w) book e = let m = inbox-holds w (in_book book) e in absurd (let h : in_book book ≡ in_inbox m.0 = m.1 in cc)
  holds-book board_cell book e = absurd (let h : in_book book ≡ on_board world.board = board-holds (in_book book) e in cc)
  holds-book book_cell book e = let h : in_book book ≡ in_book world.book = book-holds (in_book book) e in let s : world.book ≡ book = cc in s
