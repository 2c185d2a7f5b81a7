-- A whole pass, report by report.
use Rattle.std.proofs.Common.{◌≡◌, inl, inr, ℕ, zero, suc, ◌+◌, ◌<◌, Bool, true, false, cond, nat_eq, List, [], ◌∷◌, ◌++◌, length, replicate, Option, Some, None, slice_get, slice_set, refl, sym, subst, ap, ◌∙◌, arith}
use Rattle.std.proofs.lemmas.Bool.Decides.{eqb_tells}
use Rattle.std.proofs.lemmas.List.{length-set}
use Rattle.std.proofs.lemmas.List.Sums.{sum_by-cons, sum_by_push}
use Rattle.vt_key.specs.promise.Times.{Time, TimeAtMost, earlier}
use Rattle.vt_steps.specs.declared.step.Reply.TheVariants.{Waiting, Again, Announced}
use Rattle.vt_steps.specs.promise.World.{Board}
use Rattle.vt_steps.specs.promise.BoardSteps.{all_set, with_new_pass, with_announcement, with_report, BoardEffect, after_report}
use Rattle.vt_steps.proofs.steps.Outcomes.{after_report-either}
use Rattle.vt_steps.proofs.time.Flags.{set-at, may-tells}
use Rattle.vt_steps.proofs.lists.Indices.{get-put_same, get-put_other, get-within}
use Rattle.vt_board.specs.inside.Passes.{WorkerReport, with_one_more, heard, board_after_all, AreAwaited, least_reported, times_reported, all_sent, all_got, ArePassesClosedBySums}

-- ---- one report

-- where others are awaited the pass goes on
goes_on : (end : Time) (board : Board) (report : WorkerReport) → (heard end board report).reply ≡ Waiting → (heard end board report).board ≡ with_one_more board report
goes_on end board report =
    after_report-either end (with_one_more board report) (λ effect. effect.reply ≡ Waiting → effect.board ≡ with_one_more board report)
    (λ some e. refl) (λ all same e. absurd (let h : Announced _ ≡ Waiting = e in cc)) (λ all apart e. absurd (let h : Again ≡ Waiting = e in cc))

-- ---- whose flag is set

-- what a flag counts
abbrev weight : Bool → ℕ
weight flag = cond flag 1 0

abbrev counted : Option Bool → ℕ
counted None = 0
counted (Some flag) = weight flag

-- one report more: it counts where it is the worker's
times-cons : (w : ℕ) (report : WorkerReport) (reports : List WorkerReport) → times_reported w (report ∷ reports) ≡ weight (nat_eq report.worker w) + times_reported w reports
times-cons w report reports = sum_by-cons (λ (r : WorkerReport). weight (nat_eq r.worker w)) report reports

-- and sets its worker's flag, which was clear
times-first : (w : ℕ) (worker : ℕ) (flags : List Bool) → slice_get flags worker ≡ Some false →
    weight (nat_eq worker w) + counted (slice_get flags w) ≡ counted (slice_get (slice_set flags worker true) w)
times-first w worker flags clear =
    elim (eqb_tells worker w) [
      | inl e ↦
          let one : weight (nat_eq worker w) ≡ 1 = ap weight e.0 in
          let none : counted (slice_get flags w) ≡ 0 = ap (λ (i : ℕ). counted (slice_get flags i)) (sym e.1) ∙ ap counted clear in
          let set : counted (slice_get (slice_set flags worker true) w) ≡ 1 = ap (λ (i : ℕ). counted (slice_get (slice_set flags worker true) i)) (sym e.1) ∙ ap counted (get-put_same flags worker false true clear) in
          omega arith
      | inr e ↦
          let none : weight (nat_eq worker w) ≡ 0 = ap weight e.0 in
          let same : counted (slice_get (slice_set flags worker true) w) ≡ counted (slice_get flags w) = ap counted (get-put_other flags worker w true (λ (is : w ≡ worker). e.1 (sym is))) in
          omega arith
    ]

-- ---- the reports of a pass

-- what the board is after reports that are awaited: what they add to the sums, the least time, and the flags
record IsAlong (end : Time) (board : Board) (reports : List WorkerReport) (after : Board) : Type 0 where
  announced : after.announced ≡ board.announced
  is_open : after.is_open ≡ board.is_open
  has_cut : after.has_cut ≡ board.has_cut
  rounds : after.rounds ≡ board.rounds
  size : length after.has_reported ≡ length board.has_reported
  sent : after.sent ≡ board.sent + all_sent reports
  got : after.got ≡ board.got + all_got reports
  least : after.least ≡ earlier board.least (least_reported end reports)
  flags : (w : ℕ) → times_reported w reports + counted (slice_get board.has_reported w) ≡ counted (slice_get after.has_reported w)

-- one report, and those that follow it
along-cons : (end : Time) (board : Board) (report : WorkerReport) (reports : List WorkerReport) (after : Board) → slice_get board.has_reported report.worker ≡ Some false →
    IsAlong end (with_one_more board report) reports after → IsAlong end board (report ∷ reports) after
unfolding with_report
along-cons end board report reports after clear rest =
    record {
      announced = rest.announced;
      is_open = rest.is_open;
      has_cut = rest.has_cut;
      rounds = rest.rounds;
      size = rest.size ∙ length-set board.has_reported report.worker true;
      sent = omega (arith, rest.sent, sum_by-cons (λ (r : WorkerReport). r.sent) report reports);
      got = omega (arith, rest.got, sum_by-cons (λ (r : WorkerReport). r.got) report reports);
      least = omega (arith, rest.least);
      flags = λ w. omega (arith, rest.flags w, times-cons w report reports, times-first w report.worker board.has_reported clear);
    }

-- the least time stays at most the end
later : (end : Time) (board : Board) (report : WorkerReport) → TimeAtMost board.least end → TimeAtMost (with_one_more board report).least end
unfolding with_report
later end board report most = omega (arith, most)

-- reports that are awaited
along : (end : Time) (board : Board) (reports : List WorkerReport) → TimeAtMost board.least end → AreAwaited end board reports → IsAlong end board reports (board_after_all end board reports)
along end board [] in_time awaited =
    record {
      announced = refl;
      is_open = refl;
      has_cut = refl;
      rounds = refl;
      size = refl;
      sent = omega arith;
      got = omega arith;
      least = omega arith;
      flags = λ w. omega arith;
    }
along end board (report ∷ reports) in_time awaited =
    let clear = (may-tells report.worker report.least board awaited.0).2 in
    let same = goes_on end board report awaited.1 in
    along-cons end board report reports (board_after_all end (heard end board report).board reports) clear
    (subst (λ (next : Board). IsAlong end next reports (board_after_all end (heard end board report).board reports)) same
    (along end (heard end board report).board reports (subst (λ (next : Board). TimeAtMost next.least end) (sym same) (later end board report in_time)) awaited.2))

-- ---- the last report

-- the least of reported times and of one more
least-last : (end : Time) (reports : List WorkerReport) (last : WorkerReport) → least_reported end (reports ++ last ∷ []) ≡ earlier (least_reported end reports) last.least
least-last end [] last = omega arith
least-last end (report ∷ reports) last = omega (arith, least-last end reports last)

-- reports that are awaited, and one more
along-last : (end : Time) (board : Board) (reports : List WorkerReport) (last : WorkerReport) (after : Board) → slice_get after.has_reported last.worker ≡ Some false →
    IsAlong end board reports after → IsAlong end board (reports ++ last ∷ []) (with_one_more after last)
unfolding with_report
along-last end board reports last after clear before =
    record {
      announced = before.announced;
      is_open = before.is_open;
      has_cut = before.has_cut;
      rounds = before.rounds;
      size = length-set after.has_reported last.worker true ∙ before.size;
      sent = omega (arith, before.sent, sum_by_push (λ (r : WorkerReport). r.sent) reports last);
      got = omega (arith, before.got, sum_by_push (λ (r : WorkerReport). r.got) reports last);
      least = omega (arith, before.least, least-last end reports last);
      flags = λ w. omega (arith, before.flags w, sum_by_push (λ (r : WorkerReport). weight (nat_eq r.worker w)) reports last, times-first w last.worker after.has_reported clear);
    }

-- where all have reported, equal sums announce the least value and end the round
announces : (end : Time) (board : Board) → all_set board.has_reported ≡ true → board.sent ≡ board.got →
    after_report end board ≡ record { board = with_announcement board; reply = Announced board.least }
announces end board full equal =
    after_report-either end board (λ effect. effect ≡ record { board = with_announcement board; reply = Announced board.least })
    (λ some. absurd (let h : true ≡ false = sym full ∙ some in cc)) (λ all same. refl) (λ all apart. absurd (apart equal))

-- and others begin a new pass
begins_again : (end : Time) (board : Board) → all_set board.has_reported ≡ true → ¬ (board.sent ≡ board.got) →
    after_report end board ≡ record { board = with_new_pass end board; reply = Again }
begins_again end board full unequal =
    after_report-either end board (λ effect. effect ≡ record { board = with_new_pass end board; reply = Again })
    (λ some. absurd (let h : true ≡ false = sym full ∙ some in cc)) (λ all same. absurd (unequal same)) (λ all apart. refl)

-- boards that differ in a pass alone have the same new pass
same-new_pass : (end : Time) (a b : Board) → a.announced ≡ b.announced → a.is_open ≡ b.is_open → a.has_cut ≡ b.has_cut → length a.has_reported ≡ length b.has_reported → a.rounds ≡ b.rounds →
    with_new_pass end a ≡ with_new_pass end b
same-new_pass end a b announced is_open has_cut size rounds = λ i. record {
  announced = announced i;
  is_open = is_open i;
  has_cut = has_cut i;
  has_reported = replicate (size i) false;
  sent = 0;
  got = 0;
  least = end;
  rounds = rounds i;
}

-- of flags that are all clear none counts
counted-clear : (n w : ℕ) → counted (slice_get (replicate n false) w) ≡ 0
counted-clear zero w = refl
counted-clear (suc n) zero = refl
counted-clear (suc n) (suc w) = counted-clear n w

-- of flags that are all set each counts
counted-full : (flags : List Bool) (w : ℕ) → all_set flags ≡ true → w < length flags → counted (slice_get flags w) ≡ 1
counted-full flags w full within =
    let there = get-within flags w within in
    ap counted there.1 ∙ ap weight (set-at flags w there.0 full there.1)

-- a report after which none is awaited is the last one
full-by : (end : Time) (board : Board) (report : WorkerReport) → ¬ ((heard end board report).reply ≡ Waiting) → all_set (with_one_more board report).has_reported ≡ true
full-by end board report =
    after_report-either end (with_one_more board report) (λ effect. ¬ (effect.reply ≡ Waiting) → all_set (with_one_more board report).has_reported ≡ true)
    (λ some closing. absurd (closing refl)) (λ all same closing. all) (λ all apart closing. all)

-- the least reported time is at most the end
least-most : (end : Time) (reports : List WorkerReport) → TimeAtMost (least_reported end reports) end
least-most end [] = omega arith
least-most end (report ∷ reports) = omega (arith, least-most end reports)

-- every pass is closed by the sums of all its reports
pub closed_by_sums : ArePassesClosedBySums
closed_by_sums end board reports last pass =
    let before = board_after_all end board reports in
    let after = with_one_more before last in
    let all = reports ++ last ∷ [] in
    let least : board.least ≡ end = ap (λ (b : Board). b.least) pass.begun in
    let sent : board.sent ≡ 0 = ap (λ (b : Board). b.sent) pass.begun in
    let got : board.got ≡ 0 = ap (λ (b : Board). b.got) pass.begun in
    let flags : board.has_reported ≡ replicate (length board.has_reported) false = ap (λ (b : Board). b.has_reported) pass.begun in
    let clear = (may-tells last.worker last.least before pass.taken).2 in
    let whole : IsAlong end board all after = along-last end board reports last before clear (along end board reports (omega (arith, least)) pass.awaited) in
    let full : all_set after.has_reported ≡ true = full-by end before last pass.closing in
    let time : after.least ≡ least_reported end all = omega (arith, whole.least, least, least-most end all) in
    record {
      once = λ w within.
          (let none : counted (slice_get board.has_reported w) ≡ 0 = ap (λ (f : List Bool). counted (slice_get f w)) flags ∙ counted-clear (length board.has_reported) w in
          let one = counted-full after.has_reported w full (omega (arith, within, whole.size, pass.same_workers)) in
          omega (arith, none, one, whole.flags w));
      equal = λ same.
          (let done = announces end after full (omega (arith, same, whole.sent, whole.got, sent, got)) in
          (ap (λ (e : BoardEffect). e.reply) done ∙ ap Announced time, ap (λ (e : BoardEffect). e.board.announced) done ∙ time, ap (λ (e : BoardEffect). e.board.is_open) done));
      unequal = λ apart.
          (let done = begins_again end after full (λ (same : after.sent ≡ after.got). apart (omega (arith, same, whole.sent, whole.got, sent, got))) in
          (ap (λ (e : BoardEffect). e.reply) done, ap (λ (e : BoardEffect). e.board) done ∙ same-new_pass end after board whole.announced whole.is_open whole.has_cut whole.size whole.rounds ∙ sym pass.begun));
    }
