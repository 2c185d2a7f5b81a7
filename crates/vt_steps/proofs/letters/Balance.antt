-- Sums over a world: what each change adds to the weight of the letters and of the executed entries, and takes from it,
-- whatever the weight; and which serials it takes. Every count of copies is one of these sums.
use Rattle.std.proofs.Common.{◌≡◌, ℕ, ◌+◌, ◌<◌, true, List, [], ◌∷◌, ◌++◌, map, length, take, refl, sym, subst, ◌∙◌, ap, arith, Some, None, slice_get, slice_set, add-zero}
use Rattle.std.specs.List.{find, last_or, sum_by, filter, prefix_len}
use Rattle.std.specs.Option.{option_map_or}
use Rattle.std.proofs.lemmas.List.Sums.{sum_by-cons, sum_by-append, sum_by-take-drop}
use Rattle.std.proofs.lemmas.Option.{slice_get_within}
use Rattle.std.proofs.Math.ListN.{length-set}
use Rattle.vt_key.specs.promise.Order.{stamp_same}
use Rattle.vt_key.specs.promise.Queues.{has_stamp, insert_letter, without_first}
use Rattle.vt_key.specs.declared.letter.Event.{Event}
use Rattle.vt_key.specs.declared.letter.Letter.{Letter}
use Rattle.vt_key.specs.declared.letter.Mail.{Mail}
use Rattle.vt_key.specs.declared.letter.Sign.{Sign}
use Rattle.vt_key.specs.declared.letter.Sign.TheVariants.{Minus, Plus}
use Rattle.vt_key.specs.declared.order.Stamp.{Stamp}
use Rattle.vt_model.specs.promise.Simulation.{Simulation}
use Rattle.vt_model.specs.declared.sending.Sent.{Sent}
use Rattle.vt_steps.specs.inside.Copies.{entry_sum, letter_sum, letter_weight, mail_weight, part_entries, part_sum, process_entries, process_sum, serial_at}
use Rattle.vt_steps.specs.promise.Letters.{signed, stamped, unstamped}
use Rattle.vt_steps.specs.promise.Next.{with_part}
use Rattle.vt_steps.specs.promise.PartSteps.{is_below, is_for, mail_of_send, part_after_commit, part_after_cut, part_after_fetch, part_after_send, process_after_commit, with_effect}
use Rattle.vt_steps.specs.promise.ProcessSteps.{ProcessEffect, effect_of_execute, effect_of_undo, with_letter}
use Rattle.vt_steps.specs.promise.World.{Entry, LogicalProcess, Part, World, process_at, triple_after}
use Rattle.vt_key.proofs.ListLemmas.{find-passes}
use Rattle.vt_steps.proofs.lists.Indices.{get-put_same, get-put_other}
use Rattle.vt_steps.proofs.lists.Sums.{sum_by-put, sum_by-without_first, sum_by-insert_ordered, sum_by-filters, sum_by-map, sum_by-before_last, sum_by-remove, sum_by-single}
use Rattle.vt_steps.proofs.letters.Stamped.{length-stamped}
use Rattle.vt_steps.proofs.steps.Changes.{Act, executes, undoes, cancels, Leaves, homes, arrives, Local, acts, takes, Change, stays, local, sends, fetches, cuts, reports, commits, closes}

-- of a process, what letters came and went, and what entries more and fewer there are, whatever they weigh
pub record ProcessBalance {P : Type 0} (old new : LogicalProcess P) (come gone : List (Letter P)) (more fewer : List (Entry P)) : Type 0 where
  pub letters : (f : Sign → Event P → ℕ) → process_sum f new + sum_by (letter_weight f) gone ≡ process_sum f old + sum_by (letter_weight f) come
  pub entries : (g : Entry P → ℕ) → process_entries g new + sum_by g fewer ≡ process_entries g old + sum_by g more

-- Execute: the least pending message goes, and an entry comes
pub execute-balance : {S P : Type 0} (sim : Simulation S P) (p w serial : ℕ) (old : LogicalProcess P) (least : Letter P) (rest : List (Letter P)) →
    old.pending ≡ least ∷ rest →
    ProcessBalance old (effect_of_execute sim p w serial old least rest).process [] (signed Plus least.event ∷ [])
    (record { event = least.event; sent = stamped w serial (sim.fire p (triple_after sim p (old.done ++ old.past)) (unstamped least.event)).sends } ∷ []) []
unfolding effect_of_execute
execute-balance sim p w serial old least rest is = record {
  letters = λ f.
      (let a = ap (sum_by (λ letter. f Plus letter.event)) is in
      let b = sum_by-cons (λ letter. f Plus letter.event) least rest in
      let c = sum_by-single (letter_weight f) (signed Plus least.event) in
      omega arith);
  entries = λ g.
      (let entry : Entry _ = record { event = least.event; sent = stamped w serial (sim.fire p (triple_after sim p (old.done ++ old.past)) (unstamped least.event)).sends } in
      let a = sum_by-append g old.past (entry ∷ []) in
      omega arith);
}

-- Undo: the last entry goes, and the message of its event comes
pub undo-balance : {P : Type 0} (old : LogicalProcess P) (last : Entry P) → last_or None old.past ≡ Some last →
    ProcessBalance old (effect_of_undo old last).process (signed Plus last.event ∷ []) [] [] (last ∷ [])
unfolding effect_of_undo
undo-balance old last is = record {
  letters = λ f.
      (let a = sum_by-insert_ordered (λ letter. f Plus letter.event) (signed Plus last.event) old.pending in
      let c = sum_by-single (letter_weight f) (signed Plus last.event) in
      omega arith);
  entries = λ g. (let a = sum_by-before_last g old.past last is in let c = sum_by-single g last in omega arith);
}

-- Cancel: an anti-message and a message go
pub cancel-balance : {P : Type 0} (old : LogicalProcess P) (stamp : Stamp) (minus plus : Letter P) → find (has_stamp stamp) old.waiting ≡ Some minus → find (has_stamp stamp) old.pending ≡ Some plus →
    ProcessBalance old (record old { pending = without_first (has_stamp stamp) old.pending; waiting = without_first (has_stamp stamp) old.waiting })
    [] (signed Minus minus.event ∷ signed Plus plus.event ∷ []) [] []
cancel-balance old stamp minus plus waits pends = record {
  letters = λ f.
      (let a = sum_by-without_first (λ letter. f Minus letter.event) (has_stamp stamp) old.waiting minus waits in
      let b = sum_by-without_first (λ letter. f Plus letter.event) (has_stamp stamp) old.pending plus pends in
      let c = sum_by-cons (letter_weight f) (signed Minus minus.event) (signed Plus plus.event ∷ []) in
      let d = sum_by-single (letter_weight f) (signed Plus plus.event) in
      omega arith);
  entries = λ g. refl;
}

-- a letter comes
pub letter-balance : {P : Type 0} (old : LogicalProcess P) (letter : Letter P) → ProcessBalance old (with_letter old letter.sign letter) (letter ∷ []) [] [] []
letter-balance {P = P} old letter = by_sign letter.sign refl
  where
    come : (sign : Sign) → letter.sign ≡ sign → (f : Sign → Event P → ℕ) (letters : List (Letter P)) → sum_by (λ l. f sign l.event) (insert_letter letter letters) ≡ sum_by (λ l. f sign l.event) letters + sum_by (letter_weight f) (letter ∷ [])
    come sign is f letters =
        let a = sum_by-insert_ordered (λ l. f sign l.event) letter letters in
        let b = sum_by-single (letter_weight f) letter in
        let c = ap (λ s. f s letter.event) is in
        omega arith

    by_sign : (sign : Sign) → letter.sign ≡ sign → ProcessBalance old (with_letter old sign letter) (letter ∷ []) [] [] []
    by_sign Plus is = record { letters = λ f. (let a = come Plus is f old.pending in omega arith); entries = λ g. refl }
    by_sign Minus is = record { letters = λ f. (let a = come Minus is f old.waiting in omega arith); entries = λ g. refl }

-- ---- a part and a world

-- how many serials w takes, and that no other worker takes any
pub record SerialsRise {P : Type 0} (old new : World P) (w taken : ℕ) : Type 0 where
  pub own : serial_at new w ≡ serial_at old w + taken
  pub others : (v : ℕ) → (v ≡ w → ⊥) → serial_at new v ≡ serial_at old v
  pub size : length new.parts ≡ length old.parts

-- of a part, what letters came and went, and what entries more and fewer there are
pub record PartBalance {P : Type 0} (old new : Part P) (come gone : List (Letter P)) (more fewer : List (Entry P)) : Type 0 where
  pub letters : (f : Sign → Event P → ℕ) → part_sum f new + sum_by (letter_weight f) gone ≡ part_sum f old + sum_by (letter_weight f) come
  pub entries : (g : Entry P → ℕ) → part_entries g new + sum_by g fewer ≡ part_entries g old + sum_by g more

-- the same of a world
pub record WorldBalance {P : Type 0} (old new : World P) (come gone : List (Letter P)) (more fewer : List (Entry P)) : Type 0 where
  pub letters : (f : Sign → Event P → ℕ) → letter_sum f new + sum_by (letter_weight f) gone ≡ letter_sum f old + sum_by (letter_weight f) come
  pub entries : (g : Entry P → ℕ) → entry_sum g new + sum_by g fewer ≡ entry_sum g old + sum_by g more

-- a step at a process, with the letters that it sends
pub effect-balance : {P : Type 0} (old : Part P) (index : ℕ) (process : LogicalProcess P) (effect : ProcessEffect P) (come gone : List (Letter P)) (more fewer : List (Entry P)) →
    slice_get old.processes index ≡ Some process → ProcessBalance process effect.process come gone more fewer →
    PartBalance old (with_effect old index effect) (come ++ effect.letters) gone more fewer
effect-balance old index process effect come gone more fewer is b = record {
  letters = λ f.
      (let a = sum_by-put (process_sum f) old.processes index process effect.process is in
      let c = sum_by-append (letter_weight f) old.outbox effect.letters in
      let d = sum_by-append (letter_weight f) come effect.letters in
      let e = b.letters f in
      omega arith);
  entries = λ g.
      (let a = sum_by-put (process_entries g) old.processes index process effect.process is in
      let e = b.entries g in
      omega arith);
}

-- a letter that goes from the outbox or the arrived mail to its process
pub leaves-balance : {S P : Type 0} (sim : Simulation S P) (w : ℕ) (old new : Part P) (letter : Letter P) → Leaves sim w old new letter →
    (f : Sign → Event P → ℕ) → part_sum f new + letter_weight f letter ≡ part_sum f old
leaves-balance sim w old new letter (homes is e) f =
    let a = sum_by-without_first (letter_weight f) (is_for sim.workers w) old.outbox letter is in
    let c = ap (part_sum f) e in
    omega arith
leaves-balance sim w old new letter (arrives i mail is same e) f =
    let a = sum_by-remove (mail_weight f) old.arrived i mail is in
    let b = ap (letter_weight f) same in
    let c = ap (part_sum f) e in
    omega arith

-- and keeps the processes and the serial
pub leaves-same : {S P : Type 0} (sim : Simulation S P) (w : ℕ) (old new : Part P) (letter : Letter P) → Leaves sim w old new letter →
    (new.processes ≡ old.processes) × (new.serial ≡ old.serial)
leaves-same sim w old new letter (homes is e) = (ap (λ part. part.processes) e, ap (λ part. part.serial) e)
leaves-same sim w old new letter (arrives i mail is same e) = (ap (λ part. part.processes) e, ap (λ part. part.serial) e)

-- a part gives way to another
pub with_part-balance : {P : Type 0} (old : World P) (w : ℕ) (part after : Part P) (come gone : List (Letter P)) (more fewer : List (Entry P)) →
    slice_get old.parts w ≡ Some part → PartBalance part after come gone more fewer → WorldBalance old (with_part old w after) come gone more fewer
unfolding letter_sum entry_sum
with_part-balance old w part after come gone more fewer is b = record {
  letters = λ f.
      (let a = sum_by-put (part_sum f) old.parts w part after is in
      let e = b.letters f in
      omega arith);
  entries = λ g.
      (let a = sum_by-put (part_entries g) old.parts w part after is in
      let e = b.entries g in
      omega arith);
}

-- a part that took some serials takes a part's place
pub serials-rise : {P : Type 0} (old new : World P) (w : ℕ) (part after : Part P) (taken : ℕ) → slice_get old.parts w ≡ Some part →
    new.parts ≡ slice_set old.parts w after → after.serial ≡ part.serial + taken → SerialsRise old new w taken
serials-rise old new w part after taken is parts serial = record {
  own =
      (let a = ap (λ ps. option_map_or (λ p. p.serial) (slice_get ps w) 0) parts in
      let b = ap (λ o. option_map_or (λ p. p.serial) o 0) (get-put_same old.parts w part after is) in
      let c = ap (λ o. option_map_or (λ p. p.serial) o 0) is in
      omega arith);
  others = λ v apart.
      (let a = ap (λ ps. option_map_or (λ p. p.serial) (slice_get ps v) 0) parts in
      let b = ap (λ o. option_map_or (λ p. p.serial) o 0) (get-put_other old.parts w v after apart) in
      a ∙ b);
  size = ap length parts ∙ length-set old.parts w after;
}

-- ---- what each change does to copies

-- what a step does to copies: letters move; an event is executed, and what it sends is stamped with the next serials and
-- live; an event is undone, and what it sent is live no more; or a message and its anti-message annihilate each other
pub data CopyChange {P : Type 0} (old new : World P) : Type 0 where
  moves : (w : ℕ) → WorldBalance old new [] [] [] [] → SerialsRise old new w 0 → CopyChange old new
  made_live : (w serial : ℕ) (event : Event P) (unsent : List (Sent P)) → w < length old.parts → serial_at old w ≡ serial →
      WorldBalance old new (map (signed Plus) (stamped w serial unsent)) (signed Plus event ∷ []) (record { event = event; sent = stamped w serial unsent } ∷ []) [] →
      SerialsRise old new w (length unsent) → CopyChange old new
  made_dead : (w : ℕ) (last : Entry P) →
      WorldBalance old new (signed Plus last.event ∷ map (signed Minus) last.sent) [] [] (last ∷ []) → SerialsRise old new w 0 → CopyChange old new
  annihilates : (w : ℕ) (stamp : Stamp) (minus plus : Event P) → stamp_same minus.rank.stamp stamp ≡ true → stamp_same plus.rank.stamp stamp ≡ true →
      WorldBalance old new [] (signed Minus minus ∷ signed Plus plus ∷ []) [] [] → SerialsRise old new w 0 → CopyChange old new

-- a process acts
act-copies : {S P : Type 0} (sim : Simulation S P) (old new : World P) (w index : ℕ) (part after : Part P) (process : LogicalProcess P) (effect : ProcessEffect P) →
    slice_get old.parts w ≡ Some part → slice_get part.processes index ≡ Some process → new ≡ with_part old w after → after ≡ with_effect part index effect →
    Act sim (process_at sim w index) w part.serial process effect → CopyChange old new
unfolding effect_of_execute effect_of_undo
act-copies {P = P} sim old new w index part after process effect is at new_is after_is (executes least rest pending follows effect_is) =
    let same = new_is ∙ ap (with_part old w) (after_is ∙ ap (with_effect part index) effect_is) in
    let unsent : List (Sent P) = (sim.fire (process_at sim w index) (triple_after sim (process_at sim w index) (process.done ++ process.past)) (unstamped least.event)).sends in
    let next_part = with_effect part index (effect_of_execute sim (process_at sim w index) w part.serial process least rest) in
    subst (λ n. CopyChange old n) (sym same)
    (made_live w part.serial least.event unsent (slice_get_within old.parts w part is) (ap (λ o. option_map_or (λ p. p.serial) o 0) is)
    (with_part-balance old w part next_part _ _ _ _ is
    (effect-balance part index process (effect_of_execute sim (process_at sim w index) w part.serial process least rest) _ _ _ _ at
    (execute-balance sim (process_at sim w index) w part.serial process least rest pending)))
    (serials-rise old (with_part old w next_part) w part next_part (length unsent) is refl
    (ap (λ n. part.serial + n) (length-stamped w part.serial unsent))))
act-copies sim old new w index part after process effect is at new_is after_is (undoes last last_is must effect_is) =
    let same = new_is ∙ ap (with_part old w) (after_is ∙ ap (with_effect part index) effect_is) in
    let next_part = with_effect part index (effect_of_undo process last) in
    subst (λ n. CopyChange old n) (sym same)
    (made_dead w last
    (with_part-balance old w part next_part _ _ _ _ is
    (effect-balance part index process (effect_of_undo process last) _ _ _ _ at (undo-balance process last last_is)))
    (serials-rise old (with_part old w next_part) w part next_part 0 is refl refl))
act-copies {P = P} sim old new w index part after process effect is at new_is after_is (cancels stamp minus plus waits pends keys effect_is) =
    let same = new_is ∙ ap (with_part old w) (after_is ∙ ap (with_effect part index) effect_is) in
    let act : ProcessEffect P = record {
      process = record process { pending = without_first (has_stamp stamp) process.pending; waiting = without_first (has_stamp stamp) process.waiting };
      letters = [];
      serials = 0;
    } in
    let next_part = with_effect part index act in
    subst (λ n. CopyChange old n) (sym same)
    (annihilates w stamp minus.event plus.event (find-passes (has_stamp stamp) process.waiting minus waits) (find-passes (has_stamp stamp) process.pending plus pends)
    (with_part-balance old w part next_part _ _ _ _ is
    (effect-balance part index process act _ _ _ _ at (cancel-balance process stamp minus plus waits pends)))
    (serials-rise old (with_part old w next_part) w part next_part 0 is refl refl))

-- a process takes a letter: nothing comes or goes
pub takes-balance : {S P : Type 0} (sim : Simulation S P) (w index : ℕ) (old part : Part P) (letter : Letter P) (process : LogicalProcess P) →
    Leaves sim w old part letter → slice_get part.processes index ≡ Some process →
    PartBalance old (with_effect part index (record { process = with_letter process letter.sign letter; letters = []; serials = 0 })) [] [] [] []
takes-balance {P = P} sim w index old part letter process leaves at =
    let act : ProcessEffect P = record { process = with_letter process letter.sign letter; letters = []; serials = 0 } in
    let b = effect-balance part index process act (letter ∷ []) [] [] [] at (letter-balance process letter) in
    record {
      letters = λ f.
          (let x = leaves-balance sim w old part letter leaves f in
          let y = b.letters f in
          let z = sum_by-single (letter_weight f) letter in
          omega arith);
      entries = λ g.
          (let x = ap (sum_by (process_entries g)) (leaves-same sim w old part letter leaves).0 in
          let y = b.entries g in
          omega arith);
    }

-- a local step
local-copies : {S P : Type 0} (sim : Simulation S P) (old new : World P) (w : ℕ) (part after : Part P) → slice_get old.parts w ≡ Some part →
    new ≡ with_part old w after → Local sim w part after → CopyChange old new
local-copies sim old new w part after is new_is (acts index process effect at act after_is) = act-copies sim old new w index part after process effect is at new_is after_is act
local-copies {P = P} sim old new w part after is new_is (takes mid letter index process leaves at index_is free after_is) =
    let act : ProcessEffect P = record { process = with_letter process letter.sign letter; letters = []; serials = 0 } in
    let next_part = with_effect mid index act in
    subst (λ n. CopyChange old n) (sym (new_is ∙ ap (with_part old w) after_is))
    (moves w (with_part-balance old w part next_part _ _ _ _ is (takes-balance sim w index part mid letter process leaves at))
    (serials-rise old (with_part old w next_part) w part next_part 0 is refl (ap (λ n. n + 0) (leaves-same sim w part mid letter leaves).1)))

-- a part that keeps its letters, entries and serial
letters_stay : {P : Type 0} (old new : World P) (w : ℕ) (part after : Part P) → slice_get old.parts w ≡ Some part → new.parts ≡ slice_set old.parts w after → new.inboxes ≡ old.inboxes →
    PartBalance part after [] [] [] [] → after.serial ≡ part.serial → CopyChange old new
unfolding letter_sum entry_sum
letters_stay old new w part after is parts inboxes b serial =
    moves w
    (record {
      letters = λ f.
          (let x = sum_by-put (part_sum f) old.parts w part after is in
          let y = ap (sum_by (part_sum f)) parts in
          let z = ap (sum_by (sum_by (mail_weight f))) inboxes in
          let e = b.letters f in
          omega arith);
      entries = λ g.
          (let x = sum_by-put (part_entries g) old.parts w part after is in
          let y = ap (sum_by (part_entries g)) parts in
          let e = b.entries g in
          omega arith);
    })
    (serials-rise old new w part after 0 is parts (omega arith))

-- a part that keeps its letters and its processes
same-balance : {P : Type 0} (old new : Part P) → new.outbox ≡ old.outbox → new.arrived ≡ old.arrived → new.processes ≡ old.processes → PartBalance old new [] [] [] []
same-balance old new o a p = record {
  letters = λ f.
      (let x = ap (sum_by (letter_weight f)) o in
      let y = ap (sum_by (mail_weight f)) a in
      let z = ap (sum_by (process_sum f)) p in
      omega arith);
  entries = λ g. (let z = ap (sum_by (process_entries g)) p in omega arith);
}

-- a map that keeps what is counted of each keeps the sum
sum_by-map_same : {X : Type 0} (f : X → ℕ) (h : X → X) → ((x : X) → f (h x) ≡ f x) → (xs : List X) → sum_by f (map h xs) ≡ sum_by f xs
sum_by-map_same f h same [] = refl
sum_by-map_same f h same (x ∷ xs) =
    let a = sum_by-cons f (h x) (map h xs) in
    let b = sum_by-cons f x xs in
    let c = same x in
    let ih = sum_by-map_same f h same xs in
    omega arith

pub commit-balance : {P : Type 0} (part : Part P) → PartBalance part (part_after_commit part) [] [] [] []
unfolding part_after_commit
commit-balance part = record {
  letters = λ f. (let x = sum_by-map_same (process_sum f) (process_after_commit part.floor) (λ process. refl) part.processes in omega arith);
  entries = λ g.
      (let x = sum_by-map_same (process_entries g) (process_after_commit part.floor)
      (λ process.
      (let n = prefix_len (is_below part.floor) process.past in
      let a = sum_by-take-drop g process.past n in
      let b = sum_by-append g process.done (take n process.past) in
      omega arith)) part.processes in
      omega arith);
}

-- the parts and the inboxes stay
parts_stay : {P : Type 0} (old new : World P) → new.parts ≡ old.parts → new.inboxes ≡ old.inboxes → CopyChange old new
unfolding letter_sum entry_sum
parts_stay old new parts inboxes =
    moves 0
    (record {
      letters = λ f. (let x = ap (sum_by (part_sum f)) parts in let y = ap (sum_by (sum_by (mail_weight f))) inboxes in omega arith);
      entries = λ g. (let x = ap (sum_by (part_entries g)) parts in omega arith);
    })
    (record {
      own = (let x = ap (λ ps. option_map_or (λ p. p.serial) (slice_get ps 0) 0) parts in omega arith);
      others = λ v apart. ap (λ ps. option_map_or (λ p. p.serial) (slice_get ps v) 0) parts;
      size = ap length parts;
    })

-- the letters for v go from the outbox of w to the inbox of v
send-copies : {S P : Type 0} (sim : Simulation S P) (old new : World P) (w v : ℕ) (part : Part P) (inbox : List (Mail P)) →
    slice_get old.parts w ≡ Some part → slice_get old.inboxes v ≡ Some inbox → new.parts ≡ slice_set old.parts w (part_after_send sim v part) →
    new.inboxes ≡ slice_set old.inboxes v (inbox ++ mail_of_send sim v part) → CopyChange old new
unfolding letter_sum entry_sum part_after_send mail_of_send
send-copies {P = P} sim old new w v part inbox is in_is parts inboxes =
    moves w
    (record {
      letters = λ f.
          (let x = sum_by-put (part_sum f) old.parts w part (part_after_send sim v part) is in
          let y = ap (sum_by (part_sum f)) parts in
          let z = sum_by-put (sum_by (mail_weight f)) old.inboxes v inbox (inbox ++ mail_of_send sim v part) in_is in
          let u = ap (sum_by (sum_by (mail_weight f))) inboxes in
          let a = sum_by-append (mail_weight f) inbox (mail_of_send sim v part) in
          let b = sum_by-filters (letter_weight f) (is_for sim.workers v) part.outbox in
          let wrap : Letter P → Mail P = λ letter. record { letter = letter; colour = part.colour } in
          let c = sum_by-map (mail_weight f) wrap (filter (is_for sim.workers v) part.outbox) in
          omega arith);
      entries = λ g.
          (let x = sum_by-put (part_entries g) old.parts w part (part_after_send sim v part) is in
          let y = ap (sum_by (part_entries g)) parts in
          omega arith);
    })
    (serials-rise old new w part (part_after_send sim v part) 0 is parts (sym (add-zero part.serial)))

-- what was in the inbox has arrived
fetch-copies : {P : Type 0} (old new : World P) (w : ℕ) (part : Part P) (inbox : List (Mail P)) →
    slice_get old.parts w ≡ Some part → slice_get old.inboxes w ≡ Some inbox → part.arrived ≡ [] → new.parts ≡ slice_set old.parts w (part_after_fetch inbox part) →
    new.inboxes ≡ slice_set old.inboxes w [] → CopyChange old new
unfolding letter_sum entry_sum part_after_fetch
fetch-copies old new w part inbox is in_is none parts inboxes =
    moves w
    (record {
      letters = λ f.
          (let x = sum_by-put (part_sum f) old.parts w part (part_after_fetch inbox part) is in
          let y = ap (sum_by (part_sum f)) parts in
          let z = sum_by-put (sum_by (mail_weight f)) old.inboxes w inbox [] in_is in
          let u = ap (sum_by (sum_by (mail_weight f))) inboxes in
          let a = ap (sum_by (mail_weight f)) none in
          omega arith);
      entries = λ g.
          (let x = sum_by-put (part_entries g) old.parts w part (part_after_fetch inbox part) is in
          let y = ap (sum_by (part_entries g)) parts in
          omega arith);
    })
    (serials-rise old new w part (part_after_fetch inbox part) 0 is parts (sym (add-zero part.serial)))

-- each change
pub change-copies : {S P : Type 0} (sim : Simulation S P) (old new : World P) → Change sim old new → CopyChange old new
unfolding part_after_cut part_after_commit
change-copies sim old new (stays e) = parts_stay old new (ap (λ n. n.parts) e) (ap (λ n. n.inboxes) e)
change-copies sim old new (local w part after is change e) = local-copies sim old new w part after is e change
change-copies sim old new (sends w v part inbox is in_is e) = send-copies sim old new w v part inbox is in_is (ap (λ n. n.parts) e) (ap (λ n. n.inboxes) e)
change-copies sim old new (fetches w part inbox is in_is none e) = fetch-copies old new w part inbox is in_is none (ap (λ n. n.parts) e) (ap (λ n. n.inboxes) e)
change-copies sim old new (cuts w part board is cut_is e) =
    letters_stay old new w part (part_after_cut sim.end old.board.announced part) is (ap (λ n. n.parts) e) (ap (λ n. n.inboxes) e) (same-balance part _ refl refl refl) refl
change-copies sim old new (reports w part is may e) =
    letters_stay old new w part _ is (ap (λ n. n.parts) e) (ap (λ n. n.inboxes) e) (same-balance part _ refl refl refl) refl
change-copies sim old new (commits w part is open_is may e) =
    letters_stay old new w part (part_after_commit part) is (ap (λ n. n.parts) e) (ap (λ n. n.inboxes) e) (commit-balance part) refl
change-copies sim old new (closes open_is at_end e) = parts_stay old new (ap (λ n. n.parts) e) (ap (λ n. n.inboxes) e)
