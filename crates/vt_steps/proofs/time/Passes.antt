-- Cut and Report keep what holds of each round. When the last worker reports equal sums, no mail of the old colour is
-- travelling and none came to a worker since it reported, so the least value reported is a lower bound of all letters.
use Rattle.std.proofs.Common.{◌≡◌, inl, inr, ℕ, ◌+◌, Bool, true, false, cond, List, length, refl, sym, ◌∙◌, ap, arith, Option, Some, slice_get, slice_set}
use Rattle.std.specs.List.{sum_by}
use Rattle.std.proofs.Math.ListN.{length-set}
use Rattle.std.proofs.lemmas.Bool.Decides.{eqb_tells}
use Rattle.std.proofs.lemmas.List.{length-replicate}
use Rattle.std.proofs.lemmas.Option.{slice_get_within}
use Rattle.vt_key.specs.promise.Letters.{other_colour}
use Rattle.vt_key.specs.promise.Times.{Time, TimeAtMost}
use Rattle.vt_key.specs.declared.letter.Colour.{Colour}
use Rattle.vt_key.specs.declared.letter.Mail.{Mail}
use Rattle.vt_steps.specs.promise.BoardSteps.{all_set, with_new_pass, with_new_round, with_announcement, with_open_round, with_report, after_report}
use Rattle.vt_steps.specs.promise.Letters.{count_of, count_colour}
use Rattle.vt_steps.specs.promise.PartSteps.{part_after_cut, report_sent, report_got, report_least}
use Rattle.vt_steps.specs.promise.World.{Board, Part, letters_in}
use Rattle.vt_steps.proofs.letters.Colours.{sent_in, got_in, early_coloured, other-other, all-coloured, none-coloured}
use Rattle.vt_steps.proofs.time.Early.{early_in, early_mail, none-early, letters-early}
use Rattle.vt_steps.proofs.time.Flags.{flagged_sum-put_same, flagged_sum-set, flagged_sum-all, flagged_sum-none, none-set, set-at, put-cases}
use Rattle.vt_steps.proofs.steps.Outcomes.{with_open_round-either, after_report-either}
use Rattle.vt_steps.proofs.lists.Indices.{all-put, get-put_same, get-put_other, get-replicate, get-within}
use Rattle.vt_steps.proofs.time.Rounds.{IsRedLate, IsOpenRound, IsRoundSound}
use Rattle.vt_steps.proofs.lists.Sums.{sum_by-put, sum_by-nothings, sum-at}

-- a round that is open is not shut
not-shut : {A : Type 0} (b : Bool) → b ≡ true → b ≡ false → A
not-shut b e f = absurd (let h : true ≡ false = sym e ∙ f in cc)

-- ---- Cut

module _ {P : Type 0} (end t : Time) (parts : List (Part P)) (inboxes : List (List (Mail P))) (board : Board) where
  -- a round opens: the colour that all have is now the old one, and no mail has the other
  opens : board.is_open ≡ false → IsRoundSound end t parts inboxes board → IsRoundSound end t parts inboxes (with_new_round end board)
  opens shut g =
      let n = length board.has_cut in
      let m = length board.has_reported in
      let next = other_colour g.now in
      let between = g.between shut in
      let none = between.no_old_mail in
      record {
        now = next;
        cut_size = length-replicate n false ∙ g.cut_size;
        report_size = length-replicate m false ∙ g.report_size;
        inbox_size = g.inbox_size;
        counts = g.counts;
        opened = λ open_is. record {
          colours = λ w part at flag cut.
              (let unset = get-replicate n w false flag cut in
              between.colours w part at ∙ (sym (other-other g.now) ∙ ap (λ b. cond b next (other_colour next)) (sym unset)));
          all_cut = λ w flag. absurd (none-set m w flag);
          sent = sym (flagged_sum-none (sent_in (other_colour next)) m parts);
          got = omega arith;
          new_mail = λ all. sum_by-nothings (early_coloured next t) inboxes (λ i inbox at. none-coloured next t inbox (let a = sum-at (count_colour next) inboxes i inbox at in omega arith));
          heard = λ nothing least others w part at flag. absurd (none-set m w flag);
        };
        between = λ shut. absurd (let h : true ≡ false = shut in cc);
        least_end = omega arith;
        announced_end = g.announced_end;
        announced = g.announced;
        red_late = g.red_late;
      }

  -- a round is open, the one that was or a new one
  pub open-kept : IsRoundSound end t parts inboxes board → IsRoundSound end t parts inboxes (with_open_round end board)
  open-kept g = with_open_round-either end board (IsRoundSound end t parts inboxes) (λ is. g) (λ shut. opens shut g)

-- the board with an open round has one
pub open-round_is_open : (end : Time) (board : Board) → (with_open_round end board).is_open ≡ true
open-round_is_open end board = with_open_round-either end board (λ (b : Board). b.is_open ≡ true) (λ is. is) (λ shut. refl)

module _ {P : Type 0} (end t announced : Time) (parts : List (Part P)) (inboxes : List (List (Mail P))) (board : Board) (w : ℕ) (part : Part P)
    (is : slice_get parts w ≡ Some part) (open_is : board.is_open ≡ true) (clear : slice_get board.has_cut w ≡ Some false) where
  -- nobody has reported while somebody has not cut
  nobody-reported : (now : Colour) → IsOpenRound now t parts inboxes board → (v : ℕ) → slice_get board.has_reported v ≡ Some true → ⊥
  nobody-reported now o v flag = let h : false ≡ true = set-at board.has_cut w false (o.all_cut v flag) clear in cc

  -- a worker cuts: it takes the new colour, and has sent nothing in it
  pub cut-kept : IsRoundSound end t parts inboxes board →
      IsRoundSound end t (slice_set parts w (part_after_cut end announced part)) inboxes (record board { has_cut = slice_set board.has_cut w true })
  unfolding part_after_cut
  cut-kept g =
      let after = part_after_cut end announced part in
      let size = length-set parts w after in
      let now = g.now in
      let old = other_colour now in
      let o = g.opened open_is in
      record {
        now = now;
        cut_size = length-set board.has_cut w true ∙ (g.cut_size ∙ sym size);
        report_size = g.report_size ∙ sym size;
        inbox_size = g.inbox_size ∙ sym size;
        counts = λ c.
            (let a = sum_by-put (sent_in c) parts w part after is in
            let b = sum_by-put (got_in c) parts w part after is in
            let d = g.counts c in
            omega arith);
        opened = λ still. record {
          colours = λ v p at flag cut.
              elim (put-cases board.has_cut w v false true flag clear cut) [
                | inl e ↦
                    (let there : slice_get (slice_set parts w after) w ≡ Some p = ap (λ k. slice_get (slice_set parts w after) k) (sym e.0) ∙ at in
                    let here : slice_get (slice_set parts w after) w ≡ Some after = get-put_same parts w part after is in
                    let same : p ≡ after = cc in
                    let was = o.colours w part is false clear in
                    ap (λ q. q.colour) same ∙ (ap other_colour was ∙ (other-other now ∙ ap (λ b. cond b now old) (sym e.1))))
                | inr e ↦ o.colours v p (sym (get-put_other parts w v after e.0) ∙ at) flag e.1
              ];
          all_cut = λ v flag. absurd (nobody-reported now o v flag);
          sent = o.sent ∙ sym (flagged_sum-put_same (sent_in old) board.has_reported parts w part after is refl);
          got = (let a = flagged_sum-put_same (got_in old) board.has_reported parts w part after is refl in let b = o.got in omega arith);
          new_mail = λ all. o.new_mail (λ v p at cut.
              (let apart = λ (e : v ≡ w). (let h : Some true ≡ Some false = sym cut ∙ (ap (λ k. slice_get board.has_cut k) e ∙ clear) in let none : ⊥ = cc in none) in
              all v p (get-put_other parts w v after apart ∙ at) (get-put_other board.has_cut w v true apart ∙ cut)));
          heard = λ nothing least others v p at flag. absurd (nobody-reported now o v flag);
        };
        between = λ shut. not-shut board.is_open open_is shut;
        least_end = g.least_end;
        announced_end = g.announced_end;
        announced = λ h. (let a = g.announced h in let b = sum_by-put (early_in t) parts w part after is in omega arith);
        red_late = λ h. all-put (λ v (p : Part P). TimeAtMost t p.red_minimum) parts w part after is (g.red_late h) (λ was. let bound = g.announced_end in omega arith);
      }

-- ---- Report

module _ {P : Type 0} (end t : Time) (parts : List (Part P)) (inboxes : List (List (Mail P))) (board : Board) (w : ℕ) (part : Part P)
    (is : slice_get parts w ≡ Some part) (open_is : board.is_open ≡ true) (all : all_set board.has_cut ≡ true) (clear : slice_get board.has_reported w ≡ Some false) where
  -- where the value of a report is not before t, those that had not reported have all sent nothing before t since their cuts
  others-were : IsRedLate t parts (slice_set board.has_reported w true) false → TimeAtMost t (report_least end part) → IsRedLate t parts board.has_reported false
  others-were others value u q at flag =
      elim (eqb_tells u w) [
        | inl e ↦
            (let here : slice_get parts w ≡ Some q = ap (λ k. slice_get parts k) (sym e.1) ∙ at in
            let same : q ≡ part = cc in
            let r = ap (λ q. q.red_minimum) same in
            omega arith)
        | inr e ↦ others u q at (get-put_other board.has_reported w u true e.1 ∙ flag)
      ]

  -- a report enters the sums and the least value
  pub report-kept : IsRoundSound end t parts inboxes board → IsRoundSound end t parts inboxes (with_report w (report_sent part) (report_got part) (report_least end part) board)
  unfolding with_report
  report-kept g =
      let now = g.now in
      let old = other_colour now in
      let o = g.opened open_is in
      let within = slice_get_within parts w part is in
      let size_cut = g.cut_size in
      let size_in = g.inbox_size in
      let cut = get-within board.has_cut w (omega arith) in
      let in_is = get-within inboxes w (omega arith) in
      let own = o.colours w part is cut.0 cut.1 ∙ ap (λ b. cond b now old) (set-at board.has_cut w cut.0 all cut.1) in
      let gives_sent : report_sent part ≡ sent_in old part = ap (λ c. count_of part.sent (other_colour c)) own in
      let gives_got : report_got part ≡ got_in old part = ap (λ c. count_of part.got (other_colour c)) own in
      let sent_more = flagged_sum-set (sent_in old) board.has_reported parts w part clear is in
      let got_more = flagged_sum-set (got_in old) board.has_reported parts w part clear is in
      record {
        now = now;
        cut_size = g.cut_size;
        report_size = length-set board.has_reported w true ∙ g.report_size;
        inbox_size = g.inbox_size;
        counts = g.counts;
        opened = λ still. record {
          colours = o.colours;
          all_cut = λ v flag. all;
          sent = (let a = o.sent in omega arith);
          got = (let a = o.got in omega arith);
          new_mail = o.new_mail;
          heard = λ nothing least others v p at flag.
              (let a = o.got in
              let mail_more = flagged_sum-set (count_colour old) board.has_reported inboxes w in_is.0 clear in_is.1 in
              let value : TimeAtMost t (report_least end part) = omega arith in
              let was = o.heard (omega arith) (omega arith) (others-were others value) in
              elim (put-cases board.has_reported w v false true true clear flag) [
                | inl e ↦
                    (let here : slice_get parts w ≡ Some p = ap (λ k. slice_get parts k) (sym e.0) ∙ at in
                    let same : p ≡ part = cc in
                    let none = none-early end t (letters_in part) (omega arith) in
                    let counted = letters-early t part in
                    let q = ap (early_in t) same in
                    let r = ap (λ q. q.red_minimum) same in
                    (omega arith, omega arith))
                | inr e ↦ was v p at e.1
              ]);
        };
        between = λ shut. not-shut board.is_open open_is shut;
        least_end = (let a = g.least_end in omega arith);
        announced_end = g.announced_end;
        announced = g.announced;
        red_late = g.red_late;
      }

-- the board with a report has its round open
pub report-is_open : (w sent got : ℕ) (value : Time) (board : Board) → board.is_open ≡ true → (with_report w sent got value board).is_open ≡ true
unfolding with_report
report-is_open w sent got value board is = is

-- ---- the last report of a pass

module _ {P : Type 0} (end t : Time) (parts : List (Part P)) (inboxes : List (List (Mail P))) (board : Board) (open_is : board.is_open ≡ true) (g : IsRoundSound end t parts inboxes board) where
  -- unequal sums: a new pass begins, in which nobody has reported
  again : IsRoundSound end t parts inboxes (with_new_pass end board)
  again =
      let n = length board.has_reported in
      let old = other_colour g.now in
      let o = g.opened open_is in
      record {
        now = g.now;
        cut_size = g.cut_size;
        report_size = length-replicate n false ∙ g.report_size;
        inbox_size = g.inbox_size;
        counts = g.counts;
        opened = λ still. record {
          colours = o.colours;
          all_cut = λ w flag. absurd (none-set n w flag);
          sent = sym (flagged_sum-none (sent_in old) n parts);
          got = omega arith;
          new_mail = o.new_mail;
          heard = λ nothing least others w part at flag. absurd (none-set n w flag);
        };
        between = λ shut. not-shut board.is_open open_is shut;
        least_end = omega arith;
        announced_end = g.announced_end;
        announced = g.announced;
        red_late = g.red_late;
      }

  module _ (last : all_set board.has_reported ≡ true) where
    -- each worker has reported
    reported-at : (w : ℕ) (p : Part P) → slice_get parts w ≡ Some p → slice_get board.has_reported w ≡ Some true
    reported-at w p at =
        let flag = get-within board.has_reported w (let a = slice_get_within parts w p at in let b = g.report_size in omega arith) in
        flag.1 ∙ ap (λ f. let o : Option Bool = Some f in o) (set-at board.has_reported w flag.0 last flag.1)

    -- equal sums: no mail of the old colour is travelling
    no-old-mail : board.sent ≡ board.got → sum_by (count_colour (other_colour g.now)) inboxes ≡ 0
    no-old-mail equal =
        let old = other_colour g.now in
        let a = (g.opened open_is).sent in
        let b = (g.opened open_is).got in
        let c = flagged_sum-all (sent_in old) board.has_reported parts last g.report_size in
        let d = flagged_sum-all (got_in old) board.has_reported parts last g.report_size in
        let k = g.counts old in
        omega arith

    -- so what each worker has, and what it sent since its cut, is not before a time up to the least value reported
    each-reported : board.sent ≡ board.got → TimeAtMost t board.least → (w : ℕ) (p : Part P) → slice_get parts w ≡ Some p → (early_in t p ≡ 0) × TimeAtMost t p.red_minimum
    each-reported equal h w p at =
        let old = other_colour g.now in
        let o = g.opened open_is in
        let a = o.sent in
        let b = o.got in
        let c = flagged_sum-all (sent_in old) board.has_reported parts last g.report_size in
        let d = flagged_sum-all (got_in old) board.has_reported parts last g.report_size in
        let e = flagged_sum-all (count_colour old) board.has_reported inboxes last (g.report_size ∙ sym g.inbox_size) in
        let k = g.counts old in
        let stray = no-old-mail equal in
        o.heard (omega arith) h (λ u q there flag. absurd (let x : Some true ≡ Some false = sym (reported-at u q there) ∙ flag in cc)) w p at (reported-at w p at)

    -- and no letter at all is
    least-reported : board.sent ≡ board.got → TimeAtMost t board.least → sum_by (early_in t) parts + sum_by (early_mail t) inboxes ≡ 0
    least-reported equal h =
        let now = g.now in
        let old = other_colour now in
        let stray = no-old-mail equal in
        let held = sum_by-nothings (early_in t) parts (λ w p at. (each-reported equal h w p at).0) in
        let new = (g.opened open_is).new_mail (λ w p at cut. (each-reported equal h w p at).1) in
        let mail = sum_by-nothings (early_mail t) inboxes
        (λ i inbox at.
        (let x = sum-at (count_colour old) inboxes i inbox at in
        let y = all-coloured now t inbox (omega arith) in
        let z = sum-at (early_coloured now t) inboxes i inbox at in
        omega arith)) in
        omega arith

    -- equal sums: the least value reported is announced, and the round ends
    announces : board.sent ≡ board.got → IsRoundSound end t parts inboxes (with_announcement board)
    announces equal =
        let now = g.now in
        let o = g.opened open_is in
        record {
          now = now;
          cut_size = g.cut_size;
          report_size = g.report_size;
          inbox_size = g.inbox_size;
          counts = g.counts;
          opened = λ still. absurd (let h : false ≡ true = still in cc);
          between = λ shut. record {
            colours = λ w part at.
                (let cut = get-within board.has_cut w (let a = slice_get_within parts w part at in let b = g.cut_size in omega arith) in
                let all = o.all_cut w (reported-at w part at) in
                o.colours w part at cut.0 cut.1 ∙ ap (λ b. cond b now (other_colour now)) (set-at board.has_cut w cut.0 all cut.1));
            no_old_mail = no-old-mail equal;
          };
          least_end = g.least_end;
          announced_end = g.least_end;
          announced = least-reported equal;
          red_late = λ h w p at. (each-reported equal h w p at).1;
        }

  -- a pass closes with the last report
  pub pass-kept : IsRoundSound end t parts inboxes (after_report end board).board
  pass-kept =
      after_report-either end board (λ effect. IsRoundSound end t parts inboxes effect.board) (λ some. g) (λ last same. announces last same) (λ last apart. again)
