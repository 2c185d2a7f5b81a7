-- Mail is neither made nor lost: what each step does to the sums of what was sent, got and travels.
use Rattle.std.proofs.Common.{◌≡◌, ℕ, cond, List, [], ◌++◌, length, refl, ◌∙◌, ap, arith, Some, slice_get, slice_set}
use Rattle.std.specs.List.{sum_by}
use Rattle.std.proofs.lemmas.List.Sums.{sum_by-append}
use Rattle.vt_key.specs.declared.letter.Letter.{Letter}
use Rattle.vt_key.specs.declared.letter.Mail.{Mail}
use Rattle.vt_model.specs.promise.Simulation.{Simulation}
use Rattle.vt_steps.specs.declared.step.Step.{Step}
use Rattle.vt_steps.specs.promise.Letters.{is_colour, count_of, count_colour}
use Rattle.vt_steps.specs.promise.World.{Part, World}
use Rattle.vt_steps.specs.promise.PartSteps.{letters_for, part_after_send, mail_of_send, part_after_fetch, part_after_cut, part_after_commit}
use Rattle.vt_steps.specs.promise.Next.{next}
use Rattle.vt_steps.specs.inside.Laws.{IsMailKept}
use Rattle.vt_steps.proofs.lists.Sums.{sum_by-put}
use Rattle.vt_steps.proofs.letters.Colours.{count_of-raised, count_of-fetched, count_colour-mailed}
use Rattle.vt_steps.proofs.steps.Changes.{Leaves, homes, arrives, Local, acts, takes, Change, stays, local, sends, fetches, cuts, reports, commits, closes, next_changes}

-- ---- one part

-- what a worker's part was sent and got stays
record SameMail {P : Type 0} (old new : Part P) : Type 0 where
  sent : new.sent ≡ old.sent
  got : new.got ≡ old.got

leaves-same_mail : {S P : Type 0} (sim : Simulation S P) (w : ℕ) (old new : Part P) (letter : Letter P) → Leaves sim w old new letter → SameMail old new
leaves-same_mail sim w old new letter (homes is e) = record { sent = ap (λ p. p.sent) e; got = ap (λ p. p.got) e }
leaves-same_mail sim w old new letter (arrives i mail is same e) = record { sent = ap (λ p. p.sent) e; got = ap (λ p. p.got) e }

local-same_mail : {S P : Type 0} (sim : Simulation S P) (w : ℕ) (old new : Part P) → Local sim w old new → SameMail old new
local-same_mail sim w old new (acts index process effect at act e) = record { sent = ap (λ p. p.sent) e; got = ap (λ p. p.got) e }
local-same_mail sim w old new (takes part letter index process leaves at is free e) =
    let same = leaves-same_mail sim w old part letter leaves in
    record { sent = ap (λ p. p.sent) e ∙ same.sent; got = ap (λ p. p.got) e ∙ same.got }

-- ---- a world

-- a part gives way to one with the same counts, and the inboxes stay
part-kept : {P : Type 0} (old new : World P) (w : ℕ) (part after : Part P) → slice_get old.parts w ≡ Some part → SameMail part after →
    new.parts ≡ slice_set old.parts w after → new.inboxes ≡ old.inboxes → IsMailKept old new
part-kept {P = P} old new w part after is same parts inboxes c =
    let sent_of : Part P → ℕ = λ p. count_of p.sent c in
    let got_of : Part P → ℕ = λ p. count_of p.got c in
    let a = sum_by-put sent_of old.parts w part after is in
    let b = sum_by-put got_of old.parts w part after is in
    let x = ap (λ ps. sum_by sent_of ps) parts in
    let y = ap (λ ps. sum_by got_of ps) parts in
    let z = ap (λ xs. sum_by (count_colour c) xs) inboxes in
    let u = ap (λ s. count_of s c) same.sent in
    let v = ap (λ s. count_of s c) same.got in
    omega arith

send-kept : {S P : Type 0} (sim : Simulation S P) (old new : World P) (w v : ℕ) (part : Part P) (inbox : List (Mail P)) → slice_get old.parts w ≡ Some part →
    slice_get old.inboxes v ≡ Some inbox → new.parts ≡ slice_set old.parts w (part_after_send sim v part) →
    new.inboxes ≡ slice_set old.inboxes v (inbox ++ mail_of_send sim v part) → IsMailKept old new
unfolding part_after_send mail_of_send
send-kept {P = P} sim old new w v part inbox is holds parts inboxes c =
    let sent_of : Part P → ℕ = λ p. count_of p.sent c in
    let got_of : Part P → ℕ = λ p. count_of p.got c in
    let a = sum_by-put sent_of old.parts w part (part_after_send sim v part) is in
    let b = sum_by-put got_of old.parts w part (part_after_send sim v part) is in
    let d = sum_by-put (count_colour c) old.inboxes v inbox (inbox ++ mail_of_send sim v part) holds in
    let x = ap (λ ps. sum_by sent_of ps) parts in
    let y = ap (λ ps. sum_by got_of ps) parts in
    let z = ap (λ xs. sum_by (count_colour c) xs) inboxes in
    let e = sum_by-append (λ (mail : Mail P). cond (is_colour c mail.colour) 1 0) inbox (mail_of_send sim v part) in
    let f = count_colour-mailed c part.colour (letters_for sim v part) in
    let g = count_of-raised part.sent c part.colour (length (letters_for sim v part)) in
    omega arith

fetch-kept : {P : Type 0} (old new : World P) (w : ℕ) (part : Part P) (inbox : List (Mail P)) → slice_get old.parts w ≡ Some part →
    slice_get old.inboxes w ≡ Some inbox → new.parts ≡ slice_set old.parts w (part_after_fetch inbox part) →
    new.inboxes ≡ slice_set old.inboxes w [] → IsMailKept old new
unfolding part_after_fetch
fetch-kept {P = P} old new w part inbox is holds parts inboxes c =
    let sent_of : Part P → ℕ = λ p. count_of p.sent c in
    let got_of : Part P → ℕ = λ p. count_of p.got c in
    let none : List (Mail P) = [] in
    let a = sum_by-put sent_of old.parts w part (part_after_fetch inbox part) is in
    let b = sum_by-put got_of old.parts w part (part_after_fetch inbox part) is in
    let d = sum_by-put (count_colour c) old.inboxes w inbox none holds in
    let x = ap (λ ps. sum_by sent_of ps) parts in
    let y = ap (λ ps. sum_by got_of ps) parts in
    let z = ap (λ xs. sum_by (count_colour c) xs) inboxes in
    let g = count_of-fetched part.got inbox c in
    omega arith

still-kept : {P : Type 0} (old new : World P) → new.parts ≡ old.parts → new.inboxes ≡ old.inboxes → IsMailKept old new
still-kept {P = P} old new parts inboxes c =
    let x = ap (λ (ps : List (Part P)). sum_by (λ p. count_of p.sent c) ps) parts in
    let y = ap (λ (ps : List (Part P)). sum_by (λ p. count_of p.got c) ps) parts in
    let z = ap (λ xs. sum_by (count_colour c) xs) inboxes in
    omega arith

change-mail_kept : {S P : Type 0} (sim : Simulation S P) (old new : World P) → Change sim old new → IsMailKept old new
unfolding part_after_cut part_after_commit
change-mail_kept sim old new (stays e) = still-kept old new (ap (λ n. n.parts) e) (ap (λ n. n.inboxes) e)
change-mail_kept sim old new (local w part after is change e) = part-kept old new w part after is (local-same_mail sim w part after change) (ap (λ n. n.parts) e) (ap (λ n. n.inboxes) e)
change-mail_kept sim old new (sends w v part inbox is holds e) = send-kept sim old new w v part inbox is holds (ap (λ n. n.parts) e) (ap (λ n. n.inboxes) e)
change-mail_kept sim old new (fetches w part inbox is holds none e) = fetch-kept old new w part inbox is holds (ap (λ n. n.parts) e) (ap (λ n. n.inboxes) e)
change-mail_kept sim old new (cuts w part board is taken e) =
    part-kept old new w part (part_after_cut sim.end old.board.announced part) is (record { sent = refl; got = refl }) (ap (λ n. n.parts) e) (ap (λ n. n.inboxes) e)
change-mail_kept sim old new (reports w part is may e) =
    part-kept old new w part _ is (record { sent = refl; got = refl }) (ap (λ n. n.parts) e) (ap (λ n. n.inboxes) e)
change-mail_kept sim old new (commits w part is open_is may e) =
    part-kept old new w part (part_after_commit part) is (record { sent = refl; got = refl }) (ap (λ n. n.parts) e) (ap (λ n. n.inboxes) e)
change-mail_kept sim old new (closes open_is may e) = still-kept old new (ap (λ n. n.parts) e) (ap (λ n. n.inboxes) e)

pub mail_kept : {S P : Type 0} (sim : Simulation S P) (world : World P) (step : Step) → IsMailKept world (next sim world step).world
mail_kept sim world step = change-mail_kept sim world (next sim world step).world (next_changes sim world step)
