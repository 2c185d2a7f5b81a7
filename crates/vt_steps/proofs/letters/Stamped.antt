-- Events that were just stamped: their stamps are new ones, each of its own, and without them they are what was sent.
use Rattle.std.proofs.Common.{◌≡◌, inl, inr, ℕ, suc, ◌+◌, ◌≤◌, ◌<◌, true, false, List, [], ◌∷◌, map, length, refl, ap, arith}
use Rattle.std.specs.List.{sum_by, AllByRecursion}
use Rattle.std.proofs.lemmas.Bool.{cases_lt}
use Rattle.std.proofs.lemmas.List.Sums.{sum_by-cons}
use Rattle.vt_key.specs.promise.Order.{stamp_same}
use Rattle.vt_key.proofs.OrderLemmas.{stamp_same-true}
use Rattle.vt_key.specs.declared.letter.Event.{Event}
use Rattle.vt_key.specs.declared.order.Stamp.{Stamp}
use Rattle.vt_model.specs.declared.sending.Sent.{Sent}
use Rattle.vt_steps.specs.inside.Copies.{as_count, of_stamp}
use Rattle.vt_steps.specs.promise.Letters.{stamped, unstamped}
use Rattle.vt_key.proofs.ListLemmas.{every-weaker, every-both}

-- as many as were sent
pub length-stamped : {P : Type 0} (w serial : ℕ) (xs : List (Sent P)) → length (stamped w serial xs) ≡ length xs
length-stamped w serial [] = refl
length-stamped w serial (x ∷ xs) = ap suc (length-stamped w (serial + 1) xs)

-- and the same, stamps aside
pub unstamped-stamped : {P : Type 0} (w serial : ℕ) (xs : List (Sent P)) → map unstamped (stamped w serial xs) ≡ xs
unstamped-stamped w serial [] = refl
unstamped-stamped w serial (x ∷ xs) = ap (λ l. x ∷ l) (unstamped-stamped w (serial + 1) xs)

-- an event's stamp is one of worker w with a serial from low on and below high
pub record IsStamped {P : Type 0} (w low high : ℕ) (x : Event P) : Type 0 where
  pub worker : x.rank.stamp.worker ≡ w
  pub least : low ≤ x.rank.stamp.serial
  pub most : x.rank.stamp.serial < high

-- their stamps are the next ones
pub stamped-each : {P : Type 0} (w serial : ℕ) (xs : List (Sent P)) → AllByRecursion (IsStamped w serial (serial + length xs)) (stamped w serial xs)
stamped-each w serial [] = tt
stamped-each w serial (x ∷ xs) = (
  record { worker = refl; least = omega arith; most = omega arith },
  every-weaker (IsStamped w (serial + 1) (serial + 1 + length xs)) (IsStamped w serial (serial + suc (length xs))) (stamped w (serial + 1) xs)
      (λ y h. let l = h.least in let u = h.most in record { worker = h.worker; least = omega arith; most = omega arith })
      (stamped-each w (serial + 1) xs),
)

-- two events of one stamp are one
abbrev pub Alike : {P : Type 0} → Event P → Event P → Type 0
Alike x y = x.rank.stamp ≡ y.rank.stamp → x ≡ y

-- each of them is the only one of its stamp
pub stamped-alike : {P : Type 0} (w serial : ℕ) (xs : List (Sent P)) → AllByRecursion (λ x. AllByRecursion (Alike x) (stamped w serial xs)) (stamped w serial xs)
stamped-alike w serial [] = tt
stamped-alike {P} w serial (x ∷ xs) =
    let rest : List (Event P) = stamped w (serial + 1) xs in
    let later = stamped-each w (serial + 1) xs in
    let first : Event P = record { rank = record { key = x.key; stamp = record { worker = w; serial = serial } }; dest = x.dest; payload = x.payload } in (
      (
        λ e. refl,
        every-weaker (IsStamped w (serial + 1) (serial + 1 + length xs)) (Alike first) rest
            (λ y h e. let s : serial ≡ y.rank.stamp.serial = ap (λ a. a.serial) e in let l = h.least in elim (let none : ⊥ = omega arith in none) [ ]) later,
      ),
      every-both (IsStamped w (serial + 1) (serial + 1 + length xs)) (λ z. AllByRecursion (Alike z) rest) (λ z. AllByRecursion (Alike z) (first ∷ rest)) rest
          (λ z h k. ((λ e. let s : z.rank.stamp.serial ≡ serial = ap (λ a. a.serial) e in let l = h.least in elim (let none : ⊥ = omega arith in none) [ ]), k)) later (stamped-alike w (serial + 1) xs),
    )

-- the events of one stamp among them: at most one, and then the stamp is a new one
pub record Counted {P : Type 0} (stamp : Stamp) (w serial : ℕ) (xs : List (Sent P)) : Type 0 where
  pub at_most : sum_by (of_stamp stamp) (stamped w serial xs) ≤ 1
  pub within : 0 < sum_by (of_stamp stamp) (stamped w serial xs) → (w ≡ stamp.worker) × (serial ≤ stamp.serial) × (stamp.serial < serial + length xs)

-- how many of them have a stamp
pub counted : {P : Type 0} (stamp : Stamp) (w serial : ℕ) (xs : List (Sent P)) → Counted stamp w serial xs
counted stamp w serial [] = record { at_most = omega arith; within = λ h. absurd (omega arith) }
counted {P = P} stamp w serial (x ∷ xs) =
    let first : Event P = record { rank = record { key = x.key; stamp = record { worker = w; serial = serial } }; dest = x.dest; payload = x.payload } in
    let ih = counted stamp w (serial + 1) xs in
    let split = sum_by-cons (of_stamp stamp) first (stamped w (serial + 1) xs) in
    let rest = sum_by (of_stamp stamp) (stamped w (serial + 1) xs) in
    elim (stamp_same first.rank.stamp stamp) as (λ b. stamp_same first.rank.stamp stamp ≡ b → Counted stamp w serial (x ∷ xs)) [
      | true ↦ λ is.
          (let same = stamp_same-true first.rank.stamp stamp is in
          let worker : w ≡ stamp.worker = ap (λ (s : Stamp). s.worker) same in
          let number : serial ≡ stamp.serial = ap (λ (s : Stamp). s.serial) same in
          let one = ap as_count is in
          let alone : rest ≡ 0 = elim (cases_lt 0 rest) [ inl more ↦ absurd (let k = ih.within more in omega arith) | inr none ↦ omega arith ] in
          record { at_most = omega arith; within = λ h. (worker, omega arith, omega arith) })
      | false ↦ λ is.
          (let none = ap as_count is in
          let at_most = ih.at_most in
          record { at_most = omega arith; within = λ h. (let k = ih.within (omega arith) in (k.0, omega arith, omega arith)) })
    ] refl
