-- What a place keeps of its seat: after a claim that was refused, and after its cell was given back.
use Rattle.std.proofs.Common.{◌≡◌, ℕ, ◌<◌, sym, ◌∙◌, ap, subst}
use Rattle.atomic_table.specs.declared.shared.Seat.{Seat}
use Rattle.atomic_table.specs.Seated.{TableId}
use Rattle.vt_places.specs.declared.slot.Slot.{Slot}
use Rattle.vt_places.specs.declared.view.View.{View}
use Rattle.vt_places.specs.declared.place.Place.{Place}
use Rattle.vt_places.specs.inside.Slots.{cell_count}
use Rattle.vt_places.specs.inside.Kept.{Sat, Rests}

-- a seat of the same table, and of the same worker
abbrev pub IsSameSeat : {P : Type 0} → Seat (Slot P) (View P) → Seat (Slot P) (View P) → Type 0
IsSameSeat now old = (now.table_id ≡ old.table_id) × (now.id ≡ old.id) × (now.me.0.worker ≡ old.me.0.worker)

-- the same, and the seat rests
abbrev pub IsRestingSeat : {P : Type 0} → Seat (Slot P) (View P) → Seat (Slot P) (View P) → Type 0
IsRestingSeat now old = (now.table_id ≡ old.table_id) × (now.id ≡ old.id) × Rests now.me × (now.me.0.worker ≡ old.me.0.worker)

-- what a place of this worker keeps of its seat
abbrev pub IsKept : {P : Type 0} → Seat (Slot P) (View P) → ℕ → Type 0
IsKept seat worker = record {
  rests : Rests seat.me;
  own : seat.me.0.worker ≡ worker;
  known : cell_count worker < seat.table_id.slots;
}

module _ {P : Type 0} (place : Place P) (now : Seat (Slot P) (View P)) where
  -- the place's seat was changed, and rests
  pub rested : IsRestingSeat now place.seat → IsKept now place.worker
  rested same = record {
    rests = same.2;
    own = same.3 ∙ place.own;
    known = subst (λ (table : TableId). cell_count place.worker < table.slots) (sym same.0) place.known;
  }

  -- a claim was refused
  pub refused : IsSameSeat now place.seat → now.me ≡ place.seat.me → IsKept now place.worker
  refused same is = rested (same.0, same.1, subst Rests (sym is) place.rests, same.2)

-- a cell was claimed, and given back
pub released : {P : Type 0} (place : Place P) (claimed now : Seat (Slot P) (View P)) → IsSameSeat claimed place.seat → IsRestingSeat now claimed → IsKept now place.worker
released place claimed now same left = rested place now (left.0 ∙ same.0, left.1 ∙ same.1, left.2, left.3 ∙ same.2)

-- the place after a look that has found something, as its seat stands then
abbrev pub looked : {P : Type 0} (place : Place P) (now : Seat (Slot P) (View P)) → (now.table_id ≡ place.seat.table_id) × (now.id ≡ place.seat.id) × Rests now.me → now.me ≡ place.seat.me → Place P
looked place now same is =
    let kept = rested place now (same.0, same.1, same.2, ap (λ (m : Sat _). m.0.worker) is) in
    record { seat = now; worker = place.worker; rests = kept.rests; own = kept.own; known = kept.known }
