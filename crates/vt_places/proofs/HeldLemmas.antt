-- What a seat holds before and after a write, and what a claimed cell is.
use Rattle.std.proofs.Common.{◌≡◌, ℕ, List, ◌∷◌, refl, sym, ◌∙◌, ap, subst, get_or, Vec, Global}
use Rattle.atomic_table.specs.Table.{rest}
use Rattle.vt_key.specs.declared.letter.Mail.{Mail}
use Rattle.vt_model.specs.declared.settings.Config.{Config}
use Rattle.vt_steps.specs.promise.World.{Book as BookValue}
use Rattle.vt_steps.specs.inside.Cells.{Cell, in_inbox, on_board, in_book}
use Rattle.vt_places.specs.declared.slot.Slot.{Slot}
use Rattle.vt_places.specs.declared.slot.Slot.TheVariants.{Inbox, Board, Book}
use Rattle.vt_places.specs.inside.Slots.{held_in, IsSlotOf}
use Rattle.vt_places.specs.inside.Kept.{Sat}
use Rattle.vt_places.specs.inside.Calls.{Holding}

module _ {P : Type 0} where
  -- the books of equal cells are equal
  pub same-book : (a b : BookValue) → ◌≡◌ {A = Cell P} (in_book a) (in_book b) → a ≡ b
  same-book a b e = cc

  -- a slot with mail is an inbox
  pub is-inbox : (s : Slot P) (mails : List (Mail P)) → held_in s ≡ in_inbox mails → ((x : Vec (Mail P) Global) → s ≡ Inbox x → ⊥) → ⊥
  is-inbox (Inbox x) mails h none = none x refl
  is-inbox (Board b) mails h none = let e : ◌≡◌ {A = Cell P} (on_board b.board) (in_inbox mails) = h in cc
  is-inbox (Book b) mails h none = let e : ◌≡◌ {A = Cell P} (in_book b.book) (in_inbox mails) = h in cc

module _ {P : Type 0} {config : Config} {m : Sat P} {k : ℕ} {found : Cell P} (h : Holding config m k found found) {slot held : Slot P} (value : m.1 ≡ (k, slot) ∷ rest m.1) (is : slot ≡ held) where
  -- the slot that a seat has claimed
  same-slot : h.slot ≡ held
  same-slot = ap (λ (l : List (ℕ × Slot P)). (get_or l 0 (0, slot)).1) (sym h.carried ∙ value) ∙ is

  -- it holds what was found there
  pub found-is : held_in held ≡ found
  found-is = ap held_in (sym same-slot) ∙ h.now_is

  pub found-right : IsSlotOf config k held
  found-right = subst (IsSlotOf config k) same-slot h.right

  -- with another slot in its place, the seat holds that
  pub puts : (new : Slot P) {left : Cell P} → held_in new ≡ left → IsSlotOf config k new → Holding config (m.0, (k, new) ∷ rest m.1) k (held_in held) left
  puts new {left} now right =
      subst (λ c. Holding config (m.0, (k, new) ∷ rest m.1) k c left) (sym found-is)
      (record {
        slot = new;
        hand = h.hand;
        carried = ap (λ (l : List (ℕ × Slot P)). (k, new) ∷ rest l) h.carried;
        now_is = now;
        right = right;
      })
