-- Cut and Report on a kernel and the board, by what the kernel's and the board's calls do and refuse.
use Rattle.std.proofs.Common.{◌≡◌, ℕ, ◌<◌, ◌≤◌, ◌⊎◌, inl, inr, Bool, true, false, ◌&&◌, refl, sym, ◌∙◌, ap, subst, arith, Option, Some, None, Ok, Err, nat_le, if◌then◌else◌}
use Rattle.std.proofs.lemmas.Bool.Decides.{nat_tests}
use Rattle.std.proofs.lemmas.Bool.{and_parts}
use Rattle.vt_key.specs.promise.Letters.{other_colour}
use Rattle.vt_key.specs.promise.Times.{Time, TimeAtMost, time_at_most, earlier}
use Rattle.vt_key.specs.declared.fault.Fault.{Fault}
use Rattle.vt_key.specs.declared.fault.Fault.TheVariants.{NotLawful, Exhausted}
use Rattle.vt_key.specs.declared.limits.TheConstants.{MAX_COUNT}
use Rattle.vt_model.specs.promise.Handler.{Handlers}
use Rattle.vt_model.specs.promise.Simulation.{simulation_of}
use Rattle.vt_model.specs.promise.Settings.{end_of}
use Rattle.vt_steps.specs.declared.step.Step.TheVariants.{Cut, Report}
use Rattle.vt_steps.specs.declared.step.Reply.{Reply}
use Rattle.vt_steps.specs.declared.step.Reply.TheVariants.{Done}
use Rattle.vt_steps.specs.promise.Letters.{count_of, least_time}
use Rattle.vt_steps.specs.promise.World.{Part, Board}
use Rattle.vt_steps.specs.promise.PartSteps.{part_after_cut, report_sent, report_got, report_least}
use Rattle.vt_steps.specs.promise.BoardSteps.{cut_board, may_report, with_report, after_report}
use Rattle.vt_steps.specs.inside.Cells.{on_board, Acted}
use Rattle.vt_board.specs.inside.Calls.{round_counted, cut_outcome, takes_report}
use Rattle.vt_kernel.specs.inside.Held.{HeldWorker, StandsFor}
use Rattle.vt_kernel.specs.inside.Guards.{held_letters}
use Rattle.vt_kernel.proofs.ReportLemmas.{same-report}
use Rattle.vt_kernel.proofs.TimeLemmas.{least_time-low}
use Rattle.vt_kernel.specs.promise.Refusals.{PassesIn}
use Rattle.vt_cells.specs.inside.Calls.{IsCellStepOf, rounds_of}
use Rattle.vt_cells.proofs.ActLemmas.{act-cut, act-not_cut, act_report, act-report, act-not_report}

-- what a cut comes to, by what the board says: it is counted, and its rounds are within their limit
round_counted-ok : (o : Option Board) (new : Board) → round_counted o ≡ Ok new → (o ≡ Some new) × (new.rounds ≤ MAX_COUNT)
round_counted-ok None new h = absurd (let k : Err NotLawful ≡ Ok new = h in cc)
round_counted-ok (Some board) new h =
    elim (nat_le board.rounds MAX_COUNT) as (λ b. nat_le board.rounds MAX_COUNT ≡ b → ((if b then Ok board else Err Exhausted) ≡ Ok new) → (Some board ≡ Some new) × (new.rounds ≤ MAX_COUNT)) [
      | true ↦ λ is k.
          (let e : Ok board ≡ Ok new = k in
          let same : board ≡ new = cc in
          let few : board.rounds ≤ MAX_COUNT = grind (arith, nat_tests) in
          (ap Some same, subst (λ (b : Board). b.rounds ≤ MAX_COUNT) same few))
      | false ↦ λ is k. absurd (let e : Err Exhausted ≡ Ok new = k in cc)
    ] refl h

-- or it isn't
round_counted-err : (o : Option Board) (fault : Fault) → round_counted o ≡ Err fault
    → ((o ≡ None) × (fault ≡ NotLawful)) ⊎ ((new : Board) × (o ≡ Some new) × (fault ≡ Exhausted) × (MAX_COUNT < new.rounds))
round_counted-err None fault h = let k : Err NotLawful ≡ Err fault = h in let same : fault ≡ NotLawful = cc in inl (refl, same)
round_counted-err (Some board) fault h =
    elim (nat_le board.rounds MAX_COUNT) as (λ b. nat_le board.rounds MAX_COUNT ≡ b → ((if b then Ok board else Err Exhausted) ≡ Err fault)
    → ((Some board ≡ None) × (fault ≡ NotLawful)) ⊎ ((new : Board) × (Some board ≡ Some new) × (fault ≡ Exhausted) × (MAX_COUNT < new.rounds))) [
      | true ↦ λ is k. absurd (let e : Ok board ≡ Err fault = k in cc)
      | false ↦ λ is k.
          (let e : Err Exhausted ≡ Err fault = k in
          let same : fault ≡ Exhausted = cc in
          let past : MAX_COUNT < board.rounds = grind (arith, nat_tests) in
          inr (board, refl, same, past))
    ] refl h

-- two tests don't both pass, and the second does
fails-first : (a b : Bool) → (a && b) ≡ false → b ≡ true → a ≡ false
fails-first true b h k = absurd (let e : true ≡ false = sym k ∙ h in cc)
fails-first false b h k = refl

module _ {S P K : Type 0} (handlers : Handlers S P K) (w : ℕ) (old new : HeldWorker S P K) (board left : Board) {end : Time} (same_end : end ≡ end_of old.config) where
  -- a cut that the board counts
  pub cut-done : cut_outcome end w board ≡ Ok left → {announced : Time} → announced ≡ board.announced → new.worker ≡ old.worker → new.config ≡ old.config
      → ((part : Part P) → StandsFor handlers old part → StandsFor handlers new (part_after_cut (end_of old.config) announced part))
      → IsCellStepOf handlers old.config (Cut w) old new (on_board board) (on_board left) (Ok Done)
  cut-done counts said same_worker same_config stands =
      let c = round_counted-ok (cut_board (end_of old.config) w board) left (ap (λ t. cut_outcome t w board) (sym same_end) ∙ counts) in
      record {
        done = record {
          acts = λ part s. (
            part_after_cut (end_of old.config) board.announced part,
            act-cut (simulation_of handlers old.config) w part board left c.0,
            subst (λ t. StandsFor handlers new (part_after_cut (end_of old.config) t part)) said (stands part s),
          );
          worker = same_worker;
          config_is = same_config;
        };
        within = λ part s over. (let few = c.1 in omega (arith, few, over));
        refused = λ part s. tt;
        unchanged = tt;
      }

  -- and one that it doesn't
  pub cut-refused : (fault : Fault) → cut_outcome end w board ≡ Err fault → new ≡ old → left ≡ board
      → IsCellStepOf handlers old.config (Cut w) old new (on_board board) (on_board left) (Err fault)
  cut-refused fault counts same same_board =
      let sim = simulation_of handlers old.config in
      record {
        done = tt;
        within = λ part s. tt;
        refused = λ part s.
            elim (round_counted-err (cut_board (end_of old.config) w board) fault (ap (λ t. cut_outcome t w board) (sym same_end) ∙ counts)) [
              | inl a ↦ inl (ap (λ (x : Acted P). x.answer) (act-not_cut sim w part board a.0) ∙ ap Err (sym a.1))
              | inr a ↦
                  (let is = act-cut sim w part board a.0 a.1 in
                  inr (Done, ap (λ (x : Acted P). x.answer) is, inl (a.2, subst (λ (x : Acted P). PassesIn sim (Cut w) x.part (rounds_of x.cell)) (sym is) a.3)))
            ];
        unchanged = (same, ap on_board same_board);
      }

  module _ {sent got : ℕ} {least : Time} (sent_is : sent ≡ count_of old.sent (other_colour old.colour)) (got_is : got ≡ count_of old.got (other_colour old.colour))
      (least_is : least ≡ earlier old.red_minimum (least_time (end_of old.config) (held_letters old))) where
    -- a report that the board takes
    pub report-done : takes_report end w least board ≡ true → left ≡ (after_report end (with_report w sent got least board)).board
        → {reply : Reply} → reply ≡ (after_report end (with_report w sent got least board)).reply → {announced : Time} → announced ≡ left.announced → new.worker ≡ old.worker → new.config ≡ old.config
        → ((part : Part P) → StandsFor handlers old part → StandsFor handlers new (record part { floor = announced }))
        → IsCellStepOf handlers old.config (Report w) old new (on_board board) (on_board left) (Ok reply)
    report-done takes board_is {reply} reply_is said same_worker same_config stands =
        let sim = simulation_of handlers old.config in
        let with_its = with_report w sent got least board in
        let may : may_report w least board ≡ true = (and_parts (may_report w least board) (time_at_most least end) takes).0 in
        let left_is : left ≡ (after_report (end_of old.config) with_its).board = board_is ∙ ap (λ t. (after_report t with_its).board) same_end in
        let replied : reply ≡ (after_report (end_of old.config) with_its).reply = reply_is ∙ ap (λ t. (after_report t with_its).reply) same_end in
        record {
          done = record {
            acts = λ part s.
                (let v = same-report handlers old part s in
                let value : least ≡ report_least (end_of old.config) part = least_is ∙ v.2 in
                let same : with_report w (report_sent part) (report_got part) (report_least (end_of old.config) part) board ≡ with_its =
                (λ i. with_report w (sym (sent_is ∙ v.0) i) (sym (got_is ∙ v.1) i) (sym value i) board) in (
                  record part { floor = left.announced },
                  act-report sim w part board (ap (λ t. may_report w t board) (sym value) ∙ may)
                      ∙ ap (act_report sim part) same
                      ∙ (λ i. (let a : Acted P = record { part = record part { floor = (sym left_is i).announced }; cell = on_board (sym left_is i); answer = Ok (sym replied i) } in a)),
                  subst (λ t. StandsFor handlers new (record part { floor = t })) said (stands part s),
                ));
            worker = same_worker;
            config_is = same_config;
          };
          within = λ part s over. over;
          refused = λ part s. tt;
          unchanged = tt;
        }

    -- and one that it doesn't
    pub report-refused : (fault : Fault) → takes_report end w least board ≡ false → fault ≡ NotLawful → new ≡ old → left ≡ board
        → IsCellStepOf handlers old.config (Report w) old new (on_board board) (on_board left) (Err fault)
    report-refused fault takes is same same_board =
        let low = least_time-low (end_of old.config) (held_letters old) in
        let ends : TimeAtMost least end = omega (arith, low, least_is, same_end) in
        let test : time_at_most least end ≡ true = grind (arith, nat_tests) in
        let not_may = fails-first (may_report w least board) (time_at_most least end) takes test in
        record {
          done = tt;
          within = λ part s. tt;
          refused = λ part s.
              (let v = same-report handlers old part s in
              inl (ap (λ (x : Acted P). x.answer) (act-not_report (simulation_of handlers old.config) w part board (ap (λ t. may_report w t board) (sym (least_is ∙ v.2)) ∙ not_may)) ∙ ap Err (sym is)));
          unchanged = (same, ap on_board same_board);
        }
