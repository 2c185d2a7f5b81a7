-- What holds of each round of cuts, at any one time t, and that local steps, Send and Fetch keep it. Two colours tell the mail
-- that was sent before a worker's cut from that sent after it; counts tell whether mail of the old colour is travelling.
use Rattle.std.proofs.Common.{◌≡◌, ℕ, ◌+◌, ◌≤◌, Bool, true, false, cond, List, [], ◌++◌, map, length, refl, sym, ◌∙◌, ap, arith, add-zero, Some, slice_get, slice_set}
use Rattle.std.specs.List.{sum_by, filter}
use Rattle.std.proofs.Math.ListN.{length-set}
use Rattle.std.proofs.lemmas.List.Sums.{sum_by-append}
use Rattle.std.proofs.lemmas.Option.{slice_get_within}
use Rattle.vt_key.specs.promise.Letters.{other_colour}
use Rattle.vt_key.specs.promise.Times.{Time, TimeAtMost}
use Rattle.vt_key.specs.declared.letter.Colour.{Colour}
use Rattle.vt_key.specs.declared.letter.Letter.{Letter}
use Rattle.vt_key.specs.declared.letter.Mail.{Mail}
use Rattle.vt_model.specs.promise.Simulation.{Simulation}
use Rattle.vt_steps.specs.promise.BoardSteps.{all_set}
use Rattle.vt_steps.specs.inside.Copies.{letter_weight, mail_weight}
use Rattle.vt_steps.specs.promise.Letters.{count_of, count_colour, is_colour}
use Rattle.vt_steps.specs.promise.PartSteps.{is_for, mail_of_send, part_after_fetch, part_after_send}
use Rattle.vt_steps.specs.promise.World.{Board, Part}
use Rattle.vt_steps.proofs.letters.Colours.{sent_in, got_in, early_coloured, mailed, not-other, other-not, count_of-raised, count_of-fetched, count_colour-mailed, early_coloured-mailed, all-coloured}
use Rattle.vt_steps.proofs.time.Early.{early, early_in, early_letters, early_mail, all_early, none-early, at-most-least}
use Rattle.vt_steps.proofs.time.Flags.{flagged_sum, flagged_sum-put, flagged_sum-put_same, flagged_sum-grows, flagged_sum-at, set-at}
use Rattle.vt_steps.proofs.lists.Indices.{all-put, all-unput, get-put_same, get-within}
use Rattle.vt_steps.proofs.lists.Sums.{sum_by-put, sum_by-map, sum_by-filters, sum-at}

-- ---- what holds

-- all that the workers with this flag sent since they took their colour is not before t
abbrev pub IsRedLate : {P : Type 0} → Time → List (Part P) → List Bool → Bool → Type 0
IsRedLate {P} t parts flags flag = (w : ℕ) (part : Part P) → slice_get parts w ≡ Some part → slice_get flags w ≡ Some flag → TimeAtMost t part.red_minimum

-- of an open round, in which those that have cut have the colour `now`
pub record IsOpenRound {P : Type 0} (now : Colour) (t : Time) (parts : List (Part P)) (inboxes : List (List (Mail P))) (board : Board) : Type 0 where
  -- a worker has the new colour if it has cut, and the old one if not
  pub colours : (w : ℕ) (part : Part P) → slice_get parts w ≡ Some part → (flag : Bool) → slice_get board.has_cut w ≡ Some flag → part.colour ≡ cond flag now (other_colour now)
  -- nobody has reported before all have cut
  pub all_cut : (w : ℕ) → slice_get board.has_reported w ≡ Some true → all_set board.has_cut ≡ true
  -- the sums are what those that have reported sent in the old colour, and at most what they have got in it by now
  pub sent : board.sent ≡ flagged_sum (sent_in (other_colour now)) board.has_reported parts
  pub got : board.got ≤ flagged_sum (got_in (other_colour now)) board.has_reported parts
  -- mail of the new colour is not before t, if the red minimum of each worker that has cut is not
  pub new_mail : IsRedLate t parts board.has_cut true → sum_by (early_coloured now t) inboxes ≡ 0
  -- what those that have reported have is not before t, if since their reports no mail of the old colour came to them or is
  -- travelling to them, and neither the least value reported nor the red minimum of another worker is before t
  pub heard :
      flagged_sum (got_in (other_colour now)) board.has_reported parts + flagged_sum (count_colour (other_colour now)) board.has_reported inboxes ≡ board.got →
      TimeAtMost t board.least → IsRedLate t parts board.has_reported false →
      (w : ℕ) (part : Part P) → slice_get parts w ≡ Some part → slice_get board.has_reported w ≡ Some true → (early_in t part ≡ 0) × TimeAtMost t part.red_minimum

-- where no round is open: all have one colour, and no mail of the other is travelling
pub record IsBetweenRounds {P : Type 0} (now : Colour) (parts : List (Part P)) (inboxes : List (List (Mail P))) : Type 0 where
  pub colours : (w : ℕ) (part : Part P) → slice_get parts w ≡ Some part → part.colour ≡ now
  pub no_old_mail : sum_by (count_colour (other_colour now)) inboxes ≡ 0

-- of a world
pub record IsRoundSound {P : Type 0} (end t : Time) (parts : List (Part P)) (inboxes : List (List (Mail P))) (board : Board) : Type 0 where
  -- the colour of those that have cut, or of all
  pub now : Colour
  pub cut_size : length board.has_cut ≡ length parts
  pub report_size : length board.has_reported ≡ length parts
  pub inbox_size : length inboxes ≡ length parts
  -- of each colour, all mail that was sent was got or is travelling
  pub counts : (colour : Colour) → sum_by (sent_in colour) parts ≡ sum_by (got_in colour) parts + sum_by (count_colour colour) inboxes
  pub opened : board.is_open ≡ true → IsOpenRound now t parts inboxes board
  pub between : board.is_open ≡ false → IsBetweenRounds now parts inboxes
  pub least_end : TimeAtMost board.least end
  pub announced_end : TimeAtMost board.announced end
  -- no letter is before the announced time, nor is what a worker sent since it took its colour
  pub announced : TimeAtMost t board.announced → all_early t parts inboxes ≡ 0
  pub red_late : TimeAtMost t board.announced → (w : ℕ) (part : Part P) → slice_get parts w ≡ Some part → TimeAtMost t part.red_minimum

-- ---- a part changes, and keeps its colour, counts and red minimum

-- two parts have the same colour, counts and red minimum
pub record SameCounts {P : Type 0} (old new : Part P) : Type 0 where
  pub colour : new.colour ≡ old.colour
  pub sent : new.sent ≡ old.sent
  pub got : new.got ≡ old.got
  pub red_minimum : new.red_minimum ≡ old.red_minimum

module _ {P : Type 0} (end t : Time) (parts : List (Part P)) (inboxes : List (List (Mail P))) (board : Board) (w : ℕ) (part after : Part P) (is : slice_get parts w ≡ Some part)
    (same : SameCounts part after) (late : early_in t part ≡ 0 → early_in t after ≡ 0) where
  -- an open round stays sound
  open-part : (now : Colour) → IsOpenRound now t parts inboxes board → IsOpenRound now t (slice_set parts w after) inboxes board
  open-part now o =
      let old = other_colour now in
      let red = same.red_minimum in
      let sent_same = ap (λ s. count_of s old) same.sent in
      let got_same = flagged_sum-put_same (got_in old) board.has_reported parts w part after is (ap (λ s. count_of s old) same.got) in
      record {
        colours = all-put (λ v (p : Part P). (flag : Bool) → slice_get board.has_cut v ≡ Some flag → p.colour ≡ cond flag now (other_colour now)) parts w part after is o.colours
            (λ was flag at. same.colour ∙ was flag at);
        all_cut = o.all_cut;
        sent = o.sent ∙ sym (flagged_sum-put_same (sent_in old) board.has_reported parts w part after is sent_same);
        got = (let a = o.got in omega arith);
        new_mail = λ all. o.new_mail (all-unput (λ v (p : Part P). slice_get board.has_cut v ≡ Some true → TimeAtMost t p.red_minimum) parts w part after is all (λ h flag. (let k = h flag in omega arith)));
        heard = λ nothing least others.
            all-put (λ v (p : Part P). slice_get board.has_reported v ≡ Some true → (early_in t p ≡ 0) × TimeAtMost t p.red_minimum) parts w part after is
            (o.heard (omega arith) least (all-unput (λ v (p : Part P). slice_get board.has_reported v ≡ Some false → TimeAtMost t p.red_minimum) parts w part after is others (λ h flag. (let k = h flag in omega arith))))
            (λ h flag. (late (h flag).0, let k = (h flag).1 in omega arith));
      }

  -- where the part has no letter before t unless it had one, what holds is kept
  pub part-kept : IsRoundSound end t parts inboxes board → IsRoundSound end t (slice_set parts w after) inboxes board
  part-kept g =
      let size = length-set parts w after in
      record {
        now = g.now;
        cut_size = g.cut_size ∙ sym size;
        report_size = g.report_size ∙ sym size;
        inbox_size = g.inbox_size ∙ sym size;
        counts = λ c.
            (let a = sum_by-put (sent_in c) parts w part after is in
            let b = sum_by-put (got_in c) parts w part after is in
            let d = g.counts c in
            let x = ap (λ s. count_of s c) same.sent in
            let y = ap (λ s. count_of s c) same.got in
            omega arith);
        opened = λ open_is. open-part g.now (g.opened open_is);
        between = λ shut. record {
          colours = all-put (λ v (p : Part P). p.colour ≡ g.now) parts w part after is (g.between shut).colours (λ was. same.colour ∙ was);
          no_old_mail = (g.between shut).no_old_mail;
        };
        least_end = g.least_end;
        announced_end = g.announced_end;
        announced = λ h.
            (let a = g.announced h in
            let b = sum_by-put (early_in t) parts w part after is in
            let c = sum-at (early_in t) parts w part is in
            let d = late (omega arith) in
            omega arith);
        red_late = λ h. all-put (λ v (p : Part P). TimeAtMost t p.red_minimum) parts w part after is (g.red_late h) (λ was. let red = same.red_minimum in omega arith);
      }

-- ---- Send

module _ {S P : Type 0} (sim : Simulation S P) (t : Time) (parts : List (Part P)) (inboxes : List (List (Mail P))) (board : Board) (w v : ℕ) (part : Part P) (inbox : List (Mail P))
    (is : slice_get parts w ≡ Some part) (in_is : slice_get inboxes v ≡ Some inbox) where
  -- the letters that go
  abbrev leaving : List (Letter P)
  leaving = filter (is_for sim.workers v) part.outbox

  -- where nothing that a worker has is before t, nothing that it sends is
  leaving-late : early_in t part ≡ 0 → early_letters t leaving ≡ 0
  leaving-late none = let split = sum_by-filters (letter_weight (early t)) (is_for sim.workers v) part.outbox in omega arith

  -- mail of the new colour that is sent is not before t, if the red minimum of those that have cut is not
  new-mail-late : (now : Colour) → IsOpenRound now t parts inboxes board → length board.has_cut ≡ length parts →
      IsRedLate t (slice_set parts w (part_after_send sim v part)) board.has_cut true → cond (is_colour now part.colour) (early_letters t leaving) 0 ≡ 0
  unfolding part_after_send
  new-mail-late now o size all = by-flag (get-within board.has_cut w (let a = slice_get_within parts w part is in omega arith)).0 (get-within board.has_cut w (let a = slice_get_within parts w part is in omega arith)).1
    where
      by-flag : (flag : Bool) → slice_get board.has_cut w ≡ Some flag → cond (is_colour now part.colour) (early_letters t leaving) 0 ≡ 0
      by-flag true flag =
          let bound = all w (part_after_send sim v part) (get-put_same parts w part (part_after_send sim v part) is) flag in
          let none = none-early sim.end t leaving (omega arith) in
          elim (is_colour now part.colour) as (λ b. cond b (early_letters t leaving) 0 ≡ 0) [ true ↦ none | false ↦ refl ]
      by-flag false flag =
          ap (λ c. cond (is_colour now c) (early_letters t leaving) 0) (o.colours w part is false flag)
          ∙ ap (λ b. cond b (early_letters t leaving) 0) (other-not now)

  -- one that has reported sends no mail of the old colour
  reported-sent : (now : Colour) → IsOpenRound now t parts inboxes board → length board.has_cut ≡ length parts → length board.has_reported ≡ length parts →
      flagged_sum (sent_in (other_colour now)) board.has_reported (slice_set parts w (part_after_send sim v part)) ≡ flagged_sum (sent_in (other_colour now)) board.has_reported parts
  unfolding part_after_send
  reported-sent now o cut_size report_size =
      by-flag (get-within board.has_reported w (let a = slice_get_within parts w part is in omega arith)).0 (get-within board.has_reported w (let a = slice_get_within parts w part is in omega arith)).1
    where
      by-flag : (flag : Bool) → slice_get board.has_reported w ≡ Some flag →
          flagged_sum (sent_in (other_colour now)) board.has_reported (slice_set parts w (part_after_send sim v part)) ≡ flagged_sum (sent_in (other_colour now)) board.has_reported parts
      by-flag true flag =
          let old = other_colour now in
          let cut = get-within board.has_cut w (let a = slice_get_within parts w part is in omega arith) in
          let own = o.colours w part is cut.0 cut.1 ∙ ap (λ b. cond b now old) (set-at board.has_cut w cut.0 (o.all_cut w flag) cut.1) in
          let same : sent_in old (part_after_send sim v part) ≡ sent_in old part =
          count_of-raised part.sent old part.colour (length leaving)
          ∙ (ap (λ c. count_of part.sent old + cond (is_colour old c) (length leaving) 0) own
          ∙ (ap (λ b. count_of part.sent old + cond b (length leaving) 0) (not-other now) ∙ add-zero (count_of part.sent old))) in
          flagged_sum-put_same (sent_in old) board.has_reported parts w part (part_after_send sim v part) is same
      by-flag false flag =
          let a = flagged_sum-put (sent_in (other_colour now)) board.has_reported parts w false part (part_after_send sim v part) flag is in
          omega arith

  -- an open round stays sound
  open-send : (now : Colour) → IsOpenRound now t parts inboxes board → length board.has_cut ≡ length parts → length board.has_reported ≡ length parts → TimeAtMost board.least sim.end →
      IsOpenRound now t (slice_set parts w (part_after_send sim v part)) (slice_set inboxes v (inbox ++ mail_of_send sim v part)) board
  unfolding part_after_send mail_of_send
  open-send now o cut_size report_size least_end =
      let old = other_colour now in
      let after = part_after_send sim v part in
      let mails = map (mailed part.colour) leaving in
      let split = sum_by-filters (letter_weight (early t)) (is_for sim.workers v) part.outbox in
      let got_same = flagged_sum-put_same (got_in old) board.has_reported parts w part after is refl in
      record {
        colours = all-put (λ u (p : Part P). (flag : Bool) → slice_get board.has_cut u ≡ Some flag → p.colour ≡ cond flag now (other_colour now)) parts w part after is o.colours (λ was. was);
        all_cut = o.all_cut;
        sent = o.sent ∙ sym (reported-sent now o cut_size report_size);
        got = (let a = o.got in omega arith);
        new_mail = λ all.
            (let was = o.new_mail (all-unput (λ u (p : Part P). slice_get board.has_cut u ≡ Some true → TimeAtMost t p.red_minimum) parts w part after is all (λ h cut. (let k = h cut in omega arith))) in
            let a = sum_by-put (early_coloured now t) inboxes v inbox (inbox ++ mails) in_is in
            let b = sum_by-append (λ (m : Mail P). cond (is_colour now m.colour) (mail_weight (early t) m) 0) inbox mails in
            let c = early_coloured-mailed now part.colour t leaving in
            let none = new-mail-late now o cut_size all in
            omega arith);
        heard = λ nothing least others.
            (let b = o.got in
            let y = sum_by-append (λ (m : Mail P). cond (is_colour old m.colour) 1 0) inbox mails in
            let c = flagged_sum-grows (count_colour old) board.has_reported inboxes v inbox (inbox ++ mails) in_is (omega arith) in
            let was = o.heard (omega arith) least (all-unput (λ u (p : Part P). slice_get board.has_reported u ≡ Some false → TimeAtMost t p.red_minimum) parts w part after is others (λ h flag. (let k = h flag in omega arith))) in
            all-put (λ u (p : Part P). slice_get board.has_reported u ≡ Some true → (early_in t p ≡ 0) × TimeAtMost t p.red_minimum) parts w part after is was
            (λ h flag.
            (let none = (h flag).0 in
            let red = (h flag).1 in
            let late = leaving-late none in
            let bound = at-most-least sim.end t leaving (omega arith) late in
            (omega arith, omega arith))));
      }

  -- mail goes from a worker to another in the sender's colour
  pub send-kept : IsRoundSound sim.end t parts inboxes board → IsRoundSound sim.end t (slice_set parts w (part_after_send sim v part)) (slice_set inboxes v (inbox ++ mail_of_send sim v part)) board
  unfolding part_after_send mail_of_send
  send-kept g =
      let after = part_after_send sim v part in
      let mails = map (mailed part.colour) leaving in
      let size = length-set parts w after in
      let in_size = length-set inboxes v (inbox ++ mails) in
      let split = sum_by-filters (letter_weight (early t)) (is_for sim.workers v) part.outbox in
      let mail_is = λ (c : Colour). (sum_by-append (λ (m : Mail P). cond (is_colour c m.colour) 1 0) inbox mails ∙ ap (λ n. count_colour c inbox + n) (count_colour-mailed c part.colour leaving)) in
      record {
        now = g.now;
        cut_size = g.cut_size ∙ sym size;
        report_size = g.report_size ∙ sym size;
        inbox_size = in_size ∙ (g.inbox_size ∙ sym size);
        counts = λ c.
            (let a = sum_by-put (sent_in c) parts w part after is in
            let b = sum_by-put (got_in c) parts w part after is in
            let d = sum_by-put (count_colour c) inboxes v inbox (inbox ++ mails) in_is in
            let e = g.counts c in
            let x = count_of-raised part.sent c part.colour (length leaving) in
            let y = mail_is c in
            omega arith);
        opened = λ open_is. open-send g.now (g.opened open_is) g.cut_size g.report_size g.least_end;
        between = λ shut. record {
          colours = all-put (λ u (p : Part P). p.colour ≡ g.now) parts w part after is (g.between shut).colours (λ was. was);
          no_old_mail =
              (let a = sum_by-put (count_colour (other_colour g.now)) inboxes v inbox (inbox ++ mails) in_is in
              let b = mail_is (other_colour g.now) in
              let c = (g.between shut).no_old_mail in
              let d = ap (λ own. cond (is_colour (other_colour g.now) own) (length leaving) 0) ((g.between shut).colours w part is) in
              let e = ap (λ b. cond b (length leaving) 0) (not-other g.now) in
              omega arith);
        };
        least_end = g.least_end;
        announced_end = g.announced_end;
        announced = λ h.
            (let a = g.announced h in
            let b = sum_by-put (early_in t) parts w part after is in
            let c = sum_by-put (early_mail t) inboxes v inbox (inbox ++ mails) in_is in
            let d = sum_by-append (mail_weight (early t)) inbox mails in
            let e = sum_by-map (mail_weight (early t)) (mailed part.colour) leaving in
            omega arith);
        red_late = λ h.
            (let none = g.announced h in
            let here = sum-at (early_in t) parts w part is in
            let late = leaving-late (omega arith) in
            let announced_end = g.announced_end in
            let bound = at-most-least sim.end t leaving (omega arith) late in
            all-put (λ u (p : Part P). TimeAtMost t p.red_minimum) parts w part after is (g.red_late h) (λ was. omega arith));
      }

-- ---- Fetch

-- nothing, if a test passes
if-none : (b : Bool) → ◌≡◌ {A = ℕ} (cond b 0 0) 0
if-none true = refl
if-none false = refl

-- a sum, if a test passes
if-sum : (b : Bool) (m n : ℕ) → cond b (m + n) 0 ≡ cond b m 0 + cond b n 0
if-sum true m n = refl
if-sum false m n = refl

module _ {P : Type 0} (end t : Time) (parts : List (Part P)) (inboxes : List (List (Mail P))) (board : Board) (w : ℕ) (part : Part P) (inbox : List (Mail P))
    (is : slice_get parts w ≡ Some part) (in_is : slice_get inboxes w ≡ Some inbox) (empty : part.arrived ≡ []) where
  -- where neither those that have reported nor the others sent anything before t since they took their colour, nobody did
  all-red : IsRedLate t parts board.has_reported false →
      ((u : ℕ) (p : Part P) → slice_get parts u ≡ Some p → slice_get board.has_reported u ≡ Some true → (early_in t p ≡ 0) × TimeAtMost t p.red_minimum) → length board.has_reported ≡ length parts →
      (u : ℕ) (p : Part P) → slice_get parts u ≡ Some p → TimeAtMost t p.red_minimum
  all-red others reported size u p at =
      let flag = get-within board.has_reported u (let a = slice_get_within parts u p at in omega arith) in
      elim flag.0 as (λ b. slice_get board.has_reported u ≡ Some b → TimeAtMost t p.red_minimum) [ true ↦ λ e. (reported u p at e).1 | false ↦ λ e. others u p at e ] flag.1

  -- an open round stays sound
  open-fetch : (now : Colour) → IsOpenRound now t parts inboxes board → length board.has_reported ≡ length parts →
      IsOpenRound now t (slice_set parts w (part_after_fetch inbox part)) (slice_set inboxes w []) board
  unfolding part_after_fetch
  open-fetch now o size =
      let old = other_colour now in
      let none : List (Mail P) = [] in
      let after = part_after_fetch inbox part in
      let flag = get-within board.has_reported w (let a = slice_get_within parts w part is in omega arith) in
      let rises = count_of-fetched part.got inbox old in
      let nothing_arrived = ap (early_mail t) empty in
      record {
        colours = all-put (λ u (p : Part P). (flag : Bool) → slice_get board.has_cut u ≡ Some flag → p.colour ≡ cond flag now (other_colour now)) parts w part after is o.colours (λ was. was);
        all_cut = o.all_cut;
        sent = o.sent ∙ sym (flagged_sum-put_same (sent_in old) board.has_reported parts w part after is refl);
        got = (let a = flagged_sum-grows (got_in old) board.has_reported parts w part after is (omega arith) in let b = o.got in omega arith);
        new_mail = λ all.
            (let was = o.new_mail (all-unput (λ u (p : Part P). slice_get board.has_cut u ≡ Some true → TimeAtMost t p.red_minimum) parts w part after is all (λ h. h)) in
            let a = sum_by-put (early_coloured now t) inboxes w inbox none in_is in
            omega arith);
        heard = λ nothing least others.
            (let a = flagged_sum-put (got_in old) board.has_reported parts w flag.0 part after flag.1 is in
            let b = flagged_sum-put (count_colour old) board.has_reported inboxes w flag.0 inbox none flag.1 in_is in
            let c = if-none flag.0 in
            let d = ap (λ n. cond flag.0 n 0) rises ∙ if-sum flag.0 (got_in old part) (count_colour old inbox) in
            let e = o.got in
            let others_was = all-unput (λ u (p : Part P). slice_get board.has_reported u ≡ Some false → TimeAtMost t p.red_minimum) parts w part after is others (λ h. h) in
            let was = o.heard (omega arith) least others_was in
            let none_new = o.new_mail (λ u p at cut. all-red others_was was size u p at) in
            all-put (λ u (p : Part P). slice_get board.has_reported u ≡ Some true → (early_in t p ≡ 0) × TimeAtMost t p.red_minimum) parts w part after is was
            (λ h reported.
            (let none_here = (h reported).0 in
            let x = flagged_sum-at (count_colour old) board.has_reported inboxes w inbox reported in_is in
            let y = all-coloured now t inbox (omega arith) in
            let z = sum-at (early_coloured now t) inboxes w inbox in_is in
            (omega arith, (h reported).1))));
      }

  -- mail comes from a worker's inbox
  pub fetch-kept : IsRoundSound end t parts inboxes board → IsRoundSound end t (slice_set parts w (part_after_fetch inbox part)) (slice_set inboxes w []) board
  unfolding part_after_fetch
  fetch-kept g =
      let none : List (Mail P) = [] in
      let after = part_after_fetch inbox part in
      let size = length-set parts w after in
      let in_size = length-set inboxes w none in
      let nothing_arrived = ap (early_mail t) empty in
      record {
        now = g.now;
        cut_size = g.cut_size ∙ sym size;
        report_size = g.report_size ∙ sym size;
        inbox_size = in_size ∙ (g.inbox_size ∙ sym size);
        counts = λ c.
            (let a = sum_by-put (sent_in c) parts w part after is in
            let b = sum_by-put (got_in c) parts w part after is in
            let d = sum_by-put (count_colour c) inboxes w inbox none in_is in
            let e = g.counts c in
            let x = count_of-fetched part.got inbox c in
            omega arith);
        opened = λ open_is. open-fetch g.now (g.opened open_is) g.report_size;
        between = λ shut. record {
          colours = all-put (λ u (p : Part P). p.colour ≡ g.now) parts w part after is (g.between shut).colours (λ was. was);
          no_old_mail = (let a = sum_by-put (count_colour (other_colour g.now)) inboxes w inbox none in_is in let c = (g.between shut).no_old_mail in omega arith);
        };
        least_end = g.least_end;
        announced_end = g.announced_end;
        announced = λ h.
            (let a = g.announced h in
            let b = sum_by-put (early_in t) parts w part after is in
            let c = sum_by-put (early_mail t) inboxes w inbox none in_is in
            omega arith);
        red_late = λ h. all-put (λ u (p : Part P). TimeAtMost t p.red_minimum) parts w part after is (g.red_late h) (λ was. was);
      }
