-- Slots by digits: in which one a time lies, and that it stays there once the present time is another one.
use Rattle.std.proofs.Common.{◌≡◌, ◌≢◌, ℕ, zero, suc, ◌+◌, ◌-◌, ◌*◌, ◌/◌, ◌%◌, ◌<◌, ◌≤◌, ◌⊎◌, inl, inr, true, false, if◌then◌else◌, nat_eq, refl, sym, ap, ◌∙◌, subst, arith}
use Rattle.std.proofs.lemmas.Bool.{eqb-true, eqb-false, eq-eqb}
use Rattle.vt_key.specs.promise.Times.{Time, TimeBefore, TimeAtMost, ticks_of, priority_of}
use Rattle.vt_calendar.specs.inside.Digits.{high_slot, slot_of, first_kept}

-- two numbers are one, or they aren't
same-or-not : (a b : ℕ) → ((nat_eq a b ≡ true) × (a ≡ b)) ⊎ ((nat_eq a b ≡ false) × (a ≡ b → ⊥))
same-or-not a b = elim (nat_eq a b) as (λ t. nat_eq a b ≡ t → ((nat_eq a b ≡ true) × (a ≡ b)) ⊎ ((nat_eq a b ≡ false) × (a ≡ b → ⊥))) [
  | true ↦ λ e. inl (e, eqb-true a b e)
  | false ↦ λ e. inr (e, eqb-false a b e)
] refl

-- ---- digits of ticks

-- the slot where this digit is the highest that differs, and where it isn't
high-last : (first tick present : ℕ) → high_slot zero first tick present ≡ first + tick
unfolding high_slot
high-last first tick present = refl

high-here : (digits first tick present : ℕ) → tick / 256 ≡ present / 256 → high_slot (suc digits) first tick present ≡ first + tick % 256
unfolding high_slot
high-here digits first tick present same =
    ap (λ t. if t then first + tick % 256 else high_slot digits (first + 256) (tick / 256) (present / 256)) (eq-eqb (tick / 256) (present / 256) same)

high-above : (digits first tick present : ℕ) → (tick / 256 ≡ present / 256 → ⊥) → high_slot (suc digits) first tick present ≡ high_slot digits (first + 256) (tick / 256) (present / 256)
unfolding high_slot
high-above digits first tick present other = elim (same-or-not (tick / 256) (present / 256)) [
  | inl same ↦ absurd (other same.1)
  | inr apart ↦ ap (λ t. if t then first + tick % 256 else high_slot digits (first + 256) (tick / 256) (present / 256)) apart.0
]

-- the same for a count of digits that isn't written as the next of another
pub high-known : (digits first tick present : ℕ) → (digits ≡ 0) ⊎ (tick / 256 ≡ present / 256) → (digits ≡ 0 → tick < 256) → first + tick % 256 ≡ high_slot digits first tick present
high-known zero first tick present known small = let is : high_slot zero first tick present ≡ first + tick = high-last first tick present in let less : tick < 256 = small refl in omega (arith, is, less)
high-known (suc digits) first tick present (inl never) small = absurd (omega (arith, never))
high-known (suc digits) first tick present (inr same) small = sym (high-here digits first tick present same)

pub high-next : (digits first tick present : ℕ) → (digits ≡ 0 → ⊥) → (tick / 256 ≡ present / 256 → ⊥) → high_slot (digits - 1) (first + 256) (tick / 256) (present / 256) ≡ high_slot digits first tick present
high-next zero first tick present some other = absurd (some refl)
high-next (suc digits) first tick present some other =
    let less : suc digits - 1 ≡ digits = omega arith in
    ap (λ n. high_slot n (first + 256) (tick / 256) (present / 256)) less ∙ sym (high-above digits first tick present other)

-- no slot is before the first
high-from : (digits first tick present : ℕ) → first ≤ high_slot digits first tick present
high-from zero first tick present = let at : high_slot zero first tick present ≡ first + tick = high-last first tick present in omega (arith, at)
high-from (suc digits) first tick present = elim (same-or-not (tick / 256) (present / 256)) [
  | inl same ↦ let at : high_slot (suc digits) first tick present ≡ first + tick % 256 = high-here digits first tick present same.1 in omega (arith, at)
  | inr apart ↦
      let at : high_slot (suc digits) first tick present ≡ high_slot digits (first + 256) (tick / 256) (present / 256) = high-above digits first tick present apart.1 in
      omega (arith, at, high-from digits (first + 256) (tick / 256) (present / 256))
]

-- a tick of one of the first slots differs in the lowest digit alone
high-low : (digits first tick present : ℕ) → high_slot (suc digits) first tick present < first + 256 → (tick / 256 ≡ present / 256) × (high_slot (suc digits) first tick present ≡ first + tick % 256)
high-low digits first tick present low = elim (same-or-not (tick / 256) (present / 256)) [
  | inl same ↦ (same.1, high-here digits first tick present same.1)
  | inr apart ↦
      let at : high_slot (suc digits) first tick present ≡ high_slot digits (first + 256) (tick / 256) (present / 256) = high-above digits first tick present apart.1 in
      absurd (omega (arith, at, low, high-from digits (first + 256) (tick / 256) (present / 256)))
]

-- once the present tick is one of a lower slot, a tick is after it and stays in its slot
high-opened : (digits first tick start present : ℕ) → present < tick → high_slot digits first start present < high_slot digits first tick present
    → (start < tick) × (high_slot digits first tick start ≡ high_slot digits first tick present)
high-opened zero first tick start present late less =
    let at : high_slot zero first tick present ≡ first + tick = high-last first tick present in
    let is : high_slot zero first start present ≡ first + start = high-last first start present in
    (omega (arith, at, is, less), high-last first tick start ∙ sym (high-last first tick present))
high-opened (suc digits) first tick start present late less =
    let slot : ℕ = high_slot (suc digits) first tick present in
    let opens : ℕ = high_slot (suc digits) first start present in
    elim (same-or-not (start / 256) (present / 256)) [
      | inl same ↦
          let at : opens ≡ first + start % 256 = high-here digits first start present same.1 in
          let part : start / 256 ≡ present / 256 = same.1 in
          elim (same-or-not (tick / 256) (present / 256)) [
            | inl one ↦
                let is : slot ≡ first + tick % 256 = high-here digits first tick present one.1 in
                let both : tick / 256 ≡ start / 256 = omega (arith, one.1, part) in
                (omega (arith, at, is, both, less), high-here digits first tick start both ∙ sym is)
            | inr apart ↦
                let far : tick / 256 ≢ present / 256 = apart.1 in
                let other : tick / 256 ≡ start / 256 → ⊥ = λ e. apart.1 (e ∙ part) in (
                  omega (arith, part, late, far),
                  high-above digits first tick start other ∙ ap (high_slot digits (first + 256) (tick / 256)) part ∙ sym (high-above digits first tick present apart.1),
                )
          ]
      | inr apart ↦
          let at : opens ≡ high_slot digits (first + 256) (start / 256) (present / 256) = high-above digits first start present apart.1 in
          let far : first + 256 ≤ opens = omega (arith, at, high-from digits (first + 256) (start / 256) (present / 256)) in
          elim (same-or-not (tick / 256) (present / 256)) [
            | inl one ↦
                let is : slot ≡ first + tick % 256 = high-here digits first tick present one.1 in
                absurd (omega (arith, is, far, less))
            | inr beyond ↦
                let is : slot ≡ high_slot digits (first + 256) (tick / 256) (present / 256) = high-above digits first tick present beyond.1 in
                let differs : tick / 256 ≢ present / 256 = beyond.1 in
                let later : present / 256 < tick / 256 = omega (arith, late, differs) in
                let rest = high-opened digits (first + 256) (tick / 256) (start / 256) (present / 256) later (omega (arith, at, is, less)) in
                let more : start / 256 < tick / 256 = rest.0 in
                let other : tick / 256 ≡ start / 256 → ⊥ = λ e. omega (arith, e, more) in
                (omega (arith, more), high-above digits first tick start other ∙ rest.1 ∙ sym is)
          ]
    ]

-- once the present tick is an earlier one, a tick stays in its slot if that one isn't below the digit in which the two present ticks differ
high-stays : (digits first tick present back : ℕ) → present < tick → back < present
    → high_slot digits first present back / 256 * 256 ≤ high_slot digits first tick present → (k : ℕ) → first ≡ k * 256
    → high_slot digits first tick back ≡ high_slot digits first tick present
high-stays zero first tick present back late before bound k whole = high-last first tick back ∙ sym (high-last first tick present)
high-stays (suc digits) first tick present back late before bound k whole = elim (same-or-not (present / 256) (back / 256)) [
  | inl same ↦ elim (same-or-not (tick / 256) (present / 256)) [
    | inl one ↦ high-here digits first tick back (one.1 ∙ same.1) ∙ sym (high-here digits first tick present one.1)
    | inr apart ↦
        let other : tick / 256 ≡ back / 256 → ⊥ = λ e. apart.1 (e ∙ sym same.1) in
        high-above digits first tick back other ∙ ap (high_slot digits (first + 256) (tick / 256)) (sym same.1) ∙ sym (high-above digits first tick present apart.1)
  ]
  | inr apart ↦
      let differs : present / 256 ≢ back / 256 = apart.1 in
      let at : high_slot (suc digits) first present back ≡ high_slot digits (first + 256) (present / 256) (back / 256) = high-above digits first present back apart.1 in
      let far : first + 256 ≤ high_slot (suc digits) first present back = omega (arith, at, high-from digits (first + 256) (present / 256) (back / 256)) in
      elim (same-or-not (tick / 256) (present / 256)) [
        | inl one ↦
            let is : high_slot (suc digits) first tick present ≡ first + tick % 256 = high-here digits first tick present one.1 in
            absurd (omega (arith, is, far, bound, whole))
        | inr beyond ↦
            let is : high_slot (suc digits) first tick present ≡ high_slot digits (first + 256) (tick / 256) (present / 256) = high-above digits first tick present beyond.1 in
            let later : tick / 256 ≢ present / 256 = beyond.1 in
            let past : present / 256 < tick / 256 = omega (arith, late, later) in
            let earlier : back / 256 < present / 256 = omega (arith, before, differs) in
            let other : tick / 256 ≡ back / 256 → ⊥ = λ e. omega (arith, e, past, earlier) in
            high-above digits first tick back other
            ∙ high-stays digits (first + 256) (tick / 256) (present / 256) (back / 256) past earlier
            (subst (λ s. s / 256 * 256 ≤ high_slot digits (first + 256) (tick / 256) (present / 256)) at (subst (λ s. high_slot (suc digits) first present back / 256 * 256 ≤ s) is bound))
            (suc k) (omega (arith, whole))
            ∙ sym is
      ]
]

-- ---- times

-- the slot of a time in the present tick, and that of another
slot-priority : (now time : Time) → ticks_of time ≡ ticks_of now → slot_of now time ≡ priority_of time
unfolding slot_of
slot-priority now time same = ap (λ t. if t then priority_of time else high_slot 7 256 (ticks_of time) (ticks_of now)) (eq-eqb (ticks_of time) (ticks_of now) same)

slot-tick : (now time : Time) → (ticks_of time ≡ ticks_of now → ⊥) → slot_of now time ≡ high_slot 7 256 (ticks_of time) (ticks_of now)
unfolding slot_of
slot-tick now time other = elim (same-or-not (ticks_of time) (ticks_of now)) [
  | inl same ↦ absurd (other same.1)
  | inr apart ↦ ap (λ t. if t then priority_of time else high_slot 7 256 (ticks_of time) (ticks_of now)) apart.0
]

-- times of one low slot have one tick
pub slot-low : (now a b : Time) → slot_of now a ≡ slot_of now b → slot_of now a < 512 → ticks_of a ≡ ticks_of b
slot-low now a b one low =
    let n : ℕ = ticks_of now in let s : ℕ = ticks_of a in let t : ℕ = ticks_of b in
    elim (same-or-not s n) [
      | inl here ↦
          let at : slot_of now a ≡ priority_of a = slot-priority now a here.1 in
          elim (same-or-not t n) [
            | inl too ↦ here.1 ∙ sym too.1
            | inr apart ↦ let is : slot_of now b ≡ high_slot 7 256 t n = slot-tick now b apart.1 in absurd (omega (arith, at, is, one, high-from 7 256 t n))
          ]
      | inr above ↦
          let at : slot_of now a ≡ high_slot 7 256 s n = slot-tick now a above.1 in
          elim (same-or-not t n) [
            | inl here ↦ let is : slot_of now b ≡ priority_of b = slot-priority now b here.1 in absurd (omega (arith, at, is, one, high-from 7 256 s n))
            | inr apart ↦
                let is : slot_of now b ≡ high_slot 7 256 t n = slot-tick now b apart.1 in
                let first = high-low 6 256 s n (omega (arith, at, low)) in
                let second = high-low 6 256 t n (omega (arith, is, one, low)) in
                let same : s / 256 ≡ t / 256 = first.0 ∙ sym second.0 in
                let digit : high_slot 7 256 s n ≡ 256 + s % 256 = first.1 in
                let digit_too : high_slot 7 256 t n ≡ 256 + t % 256 = second.1 in
                omega (arith, at, is, one, same, digit, digit_too)
          ]
    ]

-- once the present time is one of a lower slot, a time is after it and stays in its slot
pub slot-opened : (now start time : Time) → TimeBefore now start → TimeBefore now time → slot_of now start < slot_of now time → TimeBefore start time × (slot_of start time ≡ slot_of now time)
slot-opened now start time begins late less =
    let n : ℕ = ticks_of now in let s : ℕ = ticks_of start in let t : ℕ = ticks_of time in
    elim (same-or-not s n) [
      | inl here ↦
          let at : slot_of now start ≡ priority_of start = slot-priority now start here.1 in
          let part : s ≡ n = here.1 in
          elim (same-or-not t n) [
            | inl one ↦
                let is : slot_of now time ≡ priority_of time = slot-priority now time one.1 in
                let both : t ≡ s = one.1 ∙ sym part in
                (omega (arith, at, is, both, less), slot-priority start time both ∙ sym is)
            | inr apart ↦
                let far : t ≢ n = apart.1 in
                let other : t ≡ s → ⊥ = λ e. apart.1 (e ∙ part) in
                (omega (arith, part, late, far), slot-tick start time other ∙ ap (high_slot 7 256 t) part ∙ sym (slot-tick now time apart.1))
          ]
      | inr above ↦
          let at : slot_of now start ≡ high_slot 7 256 s n = slot-tick now start above.1 in
          elim (same-or-not t n) [
            | inl one ↦
                let is : slot_of now time ≡ priority_of time = slot-priority now time one.1 in
                absurd (omega (arith, at, is, less, high-from 7 256 s n))
            | inr apart ↦
                let is : slot_of now time ≡ high_slot 7 256 t n = slot-tick now time apart.1 in
                let far : t ≢ n = apart.1 in
                let later : n < t = omega (arith, late, far) in
                let rest = high-opened 7 256 t s n later (omega (arith, at, is, less)) in
                let more : s < t = rest.0 in
                let other : t ≡ s → ⊥ = λ e. omega (arith, e, more) in
                (omega (arith, more), slot-tick start time other ∙ rest.1 ∙ sym is)
          ]
    ]

-- once the present time is an earlier one, a time of a slot from the first kept one on is after it and stays in its slot
pub slot-kept : (now back time : Time) → TimeAtMost back now → TimeBefore now time → first_kept now back ≤ slot_of now time → TimeBefore back time × (slot_of back time ≡ slot_of now time)
unfolding first_kept
slot-kept now back time before late bound =
    let n : ℕ = ticks_of now in let b : ℕ = ticks_of back in let t : ℕ = ticks_of time in
    let after : TimeBefore back time = omega (arith, before, late) in (
      after,
      elim (same-or-not n b) [
        | inl same ↦ elim (same-or-not t n) [
          | inl one ↦ slot-priority back time (one.1 ∙ same.1) ∙ sym (slot-priority now time one.1)
          | inr apart ↦
              let other : t ≡ b → ⊥ = λ e. apart.1 (e ∙ sym same.1) in
              slot-tick back time other ∙ ap (high_slot 7 256 t) (sym same.1) ∙ sym (slot-tick now time apart.1)
        ]
        | inr apart ↦
            let differs : n ≢ b = apart.1 in
            let earlier : b < n = omega (arith, before, differs) in
            let from : high_slot 7 256 n b / 256 * 256 ≤ slot_of now time = subst (λ z. (if z then 0 else high_slot 7 256 n b / 256 * 256) ≤ slot_of now time) apart.0 bound in
            elim (same-or-not t n) [
              | inl one ↦
                  let is : slot_of now time ≡ priority_of time = slot-priority now time one.1 in
                  absurd (omega (arith, is, from, high-from 7 256 n b))
              | inr beyond ↦
                  let is : slot_of now time ≡ high_slot 7 256 t n = slot-tick now time beyond.1 in
                  let far : t ≢ n = beyond.1 in
                  let later : n < t = omega (arith, late, far) in
                  let other : t ≡ b → ⊥ = λ e. omega (arith, e, later, earlier) in
                  slot-tick back time other ∙ high-stays 7 256 t n b later earlier (subst (λ z. high_slot 7 256 n b / 256 * 256 ≤ z) is from) 1 refl ∙ sym is
            ]
      ],
    )

-- ---- what the program finds

pub slot-found-priority : (now time : Time) → ticks_of time ≡ ticks_of now → priority_of time ≡ slot_of now time
slot-found-priority now time same = sym (slot-priority now time same)

pub slot-found-low : (now time : Time) → (ticks_of time ≡ ticks_of now → ⊥) → ticks_of time / 256 ≡ ticks_of now / 256 → 256 + ticks_of time % 256 ≡ slot_of now time
slot-found-low now time other same = sym (slot-tick now time other ∙ high-here 6 256 (ticks_of time) (ticks_of now) same)

pub slot-found-high : (now time : Time) → (ticks_of time ≡ ticks_of now → ⊥) → high_slot 7 256 (ticks_of time) (ticks_of now) ≡ slot_of now time
slot-found-high now time other = sym (slot-tick now time other)

pub kept-same : (now back : Time) → ticks_of now ≡ ticks_of back → 0 ≡ first_kept now back
unfolding first_kept
kept-same now back same = sym (ap (λ t. if t then 0 else high_slot 7 256 (ticks_of now) (ticks_of back) / 256 * 256) (eq-eqb (ticks_of now) (ticks_of back) same))

pub kept-high : (now back first : Time) → (ticks_of now ≡ ticks_of back → ⊥) → ticks_of first ≡ ticks_of now → slot_of back first / 256 * 256 ≡ first_kept now back
unfolding first_kept
kept-high now back first other same = elim (same-or-not (ticks_of now) (ticks_of back)) [
  | inl one ↦ absurd (other one.1)
  | inr apart ↦
      ap (λ s. s / 256 * 256) (slot-tick back first (λ e. other (sym same ∙ e)) ∙ ap (λ t. high_slot 7 256 t (ticks_of back)) same)
      ∙ sym (ap (λ t. if t then 0 else high_slot 7 256 (ticks_of now) (ticks_of back) / 256 * 256) apart.0)
]
