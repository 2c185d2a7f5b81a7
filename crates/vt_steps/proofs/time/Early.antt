-- Letters before a time: how many there are in a list, a part and a world; and that there are none exactly up to the least time.
use Rattle.std.proofs.Common.{◌≡◌, inl, inr, ℕ, ◌+◌, true, false, List, [], ◌∷◌, ◌++◌, map, refl, ap, arith}
use Rattle.std.specs.List.{sum_by, flat_map}
use Rattle.std.proofs.lemmas.Bool.{cases_lt}
use Rattle.std.proofs.lemmas.Bool.Decides.{nat_tests}
use Rattle.std.proofs.lemmas.List.Sums.{sum_by-cons, sum_by-append}
use Rattle.vt_key.specs.promise.Times.{Time, TimeAtMost, time_before}
use Rattle.vt_key.specs.declared.letter.Event.{Event}
use Rattle.vt_key.specs.declared.letter.Letter.{Letter}
use Rattle.vt_key.specs.declared.letter.Mail.{Mail}
use Rattle.vt_key.specs.declared.letter.Sign.{Sign}
use Rattle.vt_steps.specs.inside.Copies.{as_count, letter_weight, mail_weight, process_sum, part_sum}
use Rattle.vt_steps.specs.promise.Letters.{least_time}
use Rattle.vt_steps.specs.promise.World.{LogicalProcess, Part, World, letters_in, all_letters}
use Rattle.vt_steps.proofs.lists.Sums.{sum_by-map}

-- 1 for an event before a time, 0 for the others
abbrev pub early : {P : Type 0} → Time → Sign → Event P → ℕ
early t sign event = as_count (time_before event.rank.key.time t)

-- how many of these letters are before a time
abbrev pub early_letters : {P : Type 0} → Time → List (Letter P) → ℕ
early_letters t letters = sum_by (letter_weight (early t)) letters

-- how much of this mail is
abbrev pub early_mail : {P : Type 0} → Time → List (Mail P) → ℕ
early_mail t mails = sum_by (mail_weight (early t)) mails

-- how many letters that a part has are
abbrev pub early_in : {P : Type 0} → Time → Part P → ℕ
early_in t part = part_sum (early t) part

-- how many letters of parts and inboxes are
abbrev pub all_early : {P : Type 0} → Time → List (Part P) → List (List (Mail P)) → ℕ
all_early t parts inboxes = sum_by (early_in t) parts + sum_by (early_mail t) inboxes

-- ---- one letter

-- an event that doesn't count is not before the time
pub not-early : {P : Type 0} (t : Time) (sign : Sign) (event : Event P) → early t sign event ≡ 0 → TimeAtMost t event.rank.key.time
not-early t sign event none =
    elim (cases_lt event.rank.key.time t) [
      | inl soon ↦ absurd (let is : time_before event.rank.key.time t ≡ true = grind (arith, nat_tests) in let b = ap as_count is in omega arith)
      | inr late ↦ late
    ]

-- an event that is not before the time doesn't count
pub late-none : {P : Type 0} (t : Time) (sign : Sign) (event : Event P) → TimeAtMost t event.rank.key.time → early t sign event ≡ 0
late-none t sign event late = let is : time_before event.rank.key.time t ≡ false = grind (arith, nat_tests) in ap as_count is

-- ---- lists of letters and their least time

-- up to the least time none is early
pub none-early : {P : Type 0} (end t : Time) (letters : List (Letter P)) → TimeAtMost t (least_time end letters) → early_letters t letters ≡ 0
none-early end t [] h = refl
none-early end t (letter ∷ letters) h =
    let a = sum_by-cons (letter_weight (early t)) letter letters in
    let ih = none-early end t letters (omega arith) in
    let b = late-none t letter.sign letter.event (omega arith) in
    omega arith

-- where none is early, the time is at most the least time
pub at-most-least : {P : Type 0} (end t : Time) (letters : List (Letter P)) → TimeAtMost t end → early_letters t letters ≡ 0 → TimeAtMost t (least_time end letters)
at-most-least end t [] h none = h
at-most-least end t (letter ∷ letters) h none =
    let a = sum_by-cons (letter_weight (early t)) letter letters in
    let ih = at-most-least end t letters h (omega arith) in
    let b = not-early t letter.sign letter.event (omega arith) in
    omega arith

-- ---- all letters of a part and of a world, counted one by one or index by index

-- those that processes hold
held-early : {P : Type 0} (t : Time) (processes : List (LogicalProcess P)) →
    early_letters t (flat_map (λ process. process.pending ++ process.waiting) processes) ≡ sum_by (process_sum (early t)) processes
held-early t [] = refl
held-early t (process ∷ processes) =
    let a = sum_by-append (letter_weight (early t)) (process.pending ++ process.waiting) (flat_map (λ process. process.pending ++ process.waiting) processes) in
    let b = sum_by-append (letter_weight (early t)) process.pending process.waiting in
    let c = sum_by-cons (process_sum (early t)) process processes in
    let ih = held-early t processes in
    omega arith

-- those that a part has
pub letters-early : {P : Type 0} (t : Time) (part : Part P) → early_letters t (letters_in part) ≡ early_in t part
letters-early {P = P} t part =
    let f : Letter P → ℕ = letter_weight (early t) in
    let held : List (Letter P) = flat_map (λ process. process.pending ++ process.waiting) part.processes in
    let came : List (Letter P) = map (λ mail. mail.letter) part.arrived in
    let a = sum_by-append f (part.outbox ++ came) held in
    let b = sum_by-append f part.outbox came in
    let c = sum_by-map f (λ (mail : Mail P). mail.letter) part.arrived in
    let d = held-early t part.processes in
    omega arith

-- those that parts have
parts-early : {P : Type 0} (t : Time) (parts : List (Part P)) → early_letters t (flat_map letters_in parts) ≡ sum_by (early_in t) parts
parts-early t [] = refl
parts-early t (part ∷ parts) =
    let a = sum_by-append (letter_weight (early t)) (letters_in part) (flat_map letters_in parts) in
    let b = letters-early t part in
    let c = sum_by-cons (early_in t) part parts in
    let ih = parts-early t parts in
    omega arith

-- those in inboxes
inboxes-early : {P : Type 0} (t : Time) (inboxes : List (List (Mail P))) → early_mail t (flat_map (λ inbox. inbox) inboxes) ≡ sum_by (early_mail t) inboxes
inboxes-early t [] = refl
inboxes-early t (inbox ∷ inboxes) =
    let a = sum_by-append (mail_weight (early t)) inbox (flat_map (λ inbox. inbox) inboxes) in
    let b = sum_by-cons (early_mail t) inbox inboxes in
    let ih = inboxes-early t inboxes in
    omega arith

-- those of a world
pub everywhere-early : {P : Type 0} (t : Time) (world : World P) → early_letters t (all_letters world) ≡ all_early t world.parts world.inboxes
everywhere-early {P = P} t world =
    let f : Letter P → ℕ = letter_weight (early t) in
    let a = sum_by-append f (flat_map letters_in world.parts) (map (λ mail. mail.letter) (flat_map (λ inbox. inbox) world.inboxes)) in
    let b = parts-early t world.parts in
    let c = sum_by-map f (λ (mail : Mail P). mail.letter) (flat_map (λ inbox. inbox) world.inboxes) in
    let d = inboxes-early t world.inboxes in
    omega arith
