-- The output of a replay, from what its parts did.
use Rattle.std.proofs.Common.{◌≡◌, ℕ, ◌<◌, List, [], ◌++◌, length, Option, Result, Ok, Err, IfErr, ap, sym, subst, ◌∙◌, refl, inl, inr, arith, append_assoc, length-append}
use Rattle.std.specs.Prelude.{◌⊎◌}
use Rattle.std.specs.Io.KnownBytes.{Appends}
use Rattle.std.proofs.KnownBytes.{Appends-trans}
use Rattle.vt_key.specs.promise.Times.{Time}
use Rattle.vt_key.specs.declared.fault.Fault.{Fault}
use Rattle.vt_key.specs.declared.fault.Fault.TheVariants.{Memory, Output}
use Rattle.vt_model.specs.declared.rows.Record.{Record}
use Rattle.vt_model.specs.promise.Histories.{IsLawful}
use Rattle.vt_model.specs.promise.Sequential.{seq_records}
use Rattle.vt_model.specs.promise.Simulation.{Simulation}
use Rattle.vt_steps.specs.promise.World.{World, opening_world, least, book_floor, book_records}
use Rattle.vt_steps.specs.promise.Next.{reached}
use Rattle.vt_steps.proofs.book.ReachedBooks.{reached-accounted}
use Rattle.vt_steps.proofs.book.Records.{records-right}
use Rattle.vt_world.specs.promise.Answers.{PassesAtStart}
use Rattle.vt_text.specs.declared.version.Version.{Version}
use Rattle.vt_text.specs.promise.Records.{records_text}
use Rattle.vt_text.specs.promise.Writing.{AppendsBeginning}
use Rattle.vt_text.specs.inside.Writing.{AppendsAllButHeld}
use Rattle.vt_text.proofs.TextLemmas.{pushed, written, flush_fails, of_longer}
use Rattle.vt_step_text.specs.declared.reading.NumberedStep.{NumberedStep}
use Rattle.vt_step_text.specs.promise.Replies.{NumberedAnswer, replies_text, shown_text, state_text}
use Rattle.vt_step_text.specs.inside.Replays.{steps_taken}
use Rattle.vt_step_text.proofs.ReplayLemmas.{rightly_answered}
use Rattle.vt_tasks.specs.promise.Replays.{AreReplies, IsReplayText, IsRepliesText, Writes, Begins}
use Rattle.vt_tasks.specs.inside.Replays.{StopsReplay}
use Rattle.vt_tasks.specs.inside.Replying.{PutsReplies, StopsReplies, shown_of}

-- ---- what the world shows

shown_some : (announced floor least : Time) (records : ℕ) → 0 < length (shown_text announced floor least records)
unfolding shown_text
shown_some announced floor least records = omega arith

pub state_some : (version : Version) (announced floor least : Time) (records : List Record) → 0 < length (state_text version announced floor least records)
state_some version announced floor least records =
    let some = shown_some announced floor least (length records) in
    omega (arith, some, length-append (shown_text announced floor least (length records)) (records_text version records))

-- all that was gathered was written, and nothing of what the world shows
pub gathered_alone : (old new : Option (List ℕ)) (held state : List ℕ) → Appends old new held → 0 < length state → AppendsBeginning old new (held ++ state)
gathered_alone old new held state h some = record { sent = held; unsent = state; whole = refl; short = some; appends = h }

module _ (old first new : Option (List ℕ)) (held : List ℕ) (h : Appends old first held) where
  later_begun : (text : List ℕ) → AppendsBeginning first new text → AppendsBeginning old new (held ++ text)
  later_begun text b = record {
    sent = held ++ b.sent;
    unsent = b.unsent;
    whole = ap (λ (x : List ℕ). held ++ x) b.whole ∙ sym (append_assoc held b.sent b.unsent);
    short = b.short;
    appends = Appends-trans old first new held b.sent h b.appends;
  }

  -- what the world shows was put in part
  pub shown_in_part : (none state : List ℕ) → none ≡ [] → AppendsBeginning first new (none ++ state) → AppendsBeginning old new (held ++ state)
  shown_in_part none state e k = later_begun state (subst (λ (x : List ℕ). AppendsBeginning first new (x ++ state)) e k)

-- what the world shows was put, and then written in part
pub shown_flushed : (old first put new : Option (List ℕ)) (held none held' state : List ℕ) → Appends old first held → none ≡ [] → AppendsAllButHeld first put held' (none ++ state) → AppendsBeginning put new held' → AppendsBeginning old new (held ++ state)
shown_flushed old first put new held none held' state h e k l = shown_in_part old first new held h none state e (flush_fails first put new held' (none ++ state) k l)

-- ---- what is shown is what the definition says

-- what a world of the definitions shows, with a version of the text of records, in a run that ends then
abbrev state_of : {P : Type 0} → Version → Time → World P → List ℕ
state_of version end world = state_text version world.board.announced (book_floor end world.book) (least end world) (book_records end world.book)

abbrev AreSequential : {S P : Type 0} → Simulation S P → World P → Type 0
AreSequential sim world = book_records sim.end world.book ≡ seq_records sim (book_floor sim.end world.book)

are_sequential : {S P : Type 0} (sim : Simulation S P) → IsLawful sim → (serial : ℕ) (steps : List NumberedStep) (replies : List NumberedAnswer) (end : World P) → AreReplies sim (opening_world sim serial) steps replies end → AreSequential sim end
are_sequential sim lawful serial steps replies end h =
    let taken = steps_taken sim steps replies in
    subst (λ (w : World _). AreSequential sim w) (sym (rightly_answered sim (opening_world sim serial) end steps replies h.answered).taken)
    (records-right sim lawful (reached sim serial taken) (reached-accounted sim lawful serial taken)).records

-- what the calls of a reached world tell is what the definition says
shown_is : (version : Version) {S P : Type 0} (sim : Simulation S P) (world : World P) → AreSequential sim world → shown_of sim version world ≡ state_of version sim.end world
shown_is version sim world records = ap (λ (rs : List Record). state_text version world.board.announced (book_floor sim.end world.book) (least sim.end world) rs) (sym records)

-- ---- a whole replay

module _ (version : Version) {S P : Type 0} (sim : Simulation S P) (serial : ℕ) (steps : List NumberedStep) where
  right : (replies : List NumberedAnswer) (end : World P) → AreReplies sim (opening_world sim serial) steps replies end → IsReplayText sim version serial steps (replies_text replies ++ state_of version sim.end end)
  right replies end h = record {
    output = record { replies = replies; end = end; answered = h.answered; output = refl };
    exact = h.exact;
  }

  -- the lines of the answers were written in part
  pub replies_begun : (old new : Option (List ℕ)) (none : List ℕ) → none ≡ [] → StopsReplies sim (opening_world sim serial) steps old new none → Begins (IsReplayText sim version serial steps) old new
  replies_begun old new none e h = record {
    text = replies_text h.replies ++ state_of version sim.end h.end;
    right = right h.replies h.end h.are;
    begun = of_longer old new (replies_text h.replies) (state_of version sim.end h.end) (subst (λ (x : List ℕ). AppendsBeginning old new (x ++ replies_text h.replies)) e h.begun);
  }

  pub output_stops : (old new : Option (List ℕ)) (fault : Fault) → fault ≡ Output → Begins (IsReplayText sim version serial steps) old new → StopsReplay (IsReplayText sim version serial steps) (IsRepliesText sim serial steps) (PassesAtStart sim serial) old new fault
  output_stops old new fault e h = subst (λ (f : Fault). StopsReplay (IsReplayText sim version serial steps) (IsRepliesText sim serial steps) (PassesAtStart sim serial) old new f) (sym e) h

  -- what the world shows could not be copied, or the writer failed
  pub show_stops : (old now new : Option (List ℕ)) (held : List ℕ) (fault : Fault) → ((fault ≡ Memory) × Appends now new held) ⊎ (fault ≡ Output) → Begins (IsReplayText sim version serial steps) old new
      → (Appends now new held → Writes (IsRepliesText sim serial steps) old new) → StopsReplay (IsReplayText sim version serial steps) (IsRepliesText sim serial steps) (PassesAtStart sim serial) old new fault
  show_stops old now new held fault (inl h) begun lines =
      subst (λ (f : Fault). StopsReplay (IsReplayText sim version serial steps) (IsRepliesText sim serial steps) (PassesAtStart sim serial) old new f) (sym h.0) (inr (lines h.1))
  show_stops old now new held fault (inr e) begun lines = output_stops old new fault e begun

  module _ (lawful : IsLawful sim) (end : World P) (old now : Option (List ℕ)) (none held : List ℕ) (empty : none ≡ []) (put : PutsReplies sim (opening_world sim serial) steps end old now none held) where
    shown_at_end : shown_of sim version end ≡ state_of version sim.end end
    shown_at_end = shown_is version sim end (are_sequential sim lawful serial steps put.replies end put.are)

    lines : AppendsAllButHeld old now held (replies_text put.replies)
    lines = subst (λ (x : List ℕ). AppendsAllButHeld old now held (x ++ replies_text put.replies)) empty put.put

    abbrev shown : List ℕ
    shown = state_of version sim.end end

    abbrev whole : List ℕ
    whole = replies_text put.replies ++ shown

    is_right : IsReplayText sim version serial steps whole
    is_right = right put.replies end put.are

    all_put : AppendsAllButHeld old now (held ++ shown) whole
    all_put = pushed old now held (replies_text put.replies) shown lines

    -- the whole output was written
    pub replay_written : (new : Option (List ℕ)) → Appends now new (held ++ shown_of sim version end) → Writes (IsReplayText sim version serial steps) old new
    replay_written new h = record { text = whole; right = is_right; written = written old now new (held ++ shown) whole all_put (subst (λ (x : List ℕ). Appends now new (held ++ x)) shown_at_end h) }

    -- a beginning of it was written
    pub replay_begun : (new : Option (List ℕ)) → AppendsBeginning now new (held ++ shown_of sim version end) → Begins (IsReplayText sim version serial steps) old new
    replay_begun new h = record { text = whole; right = is_right; begun = flush_fails old now new (held ++ shown) whole all_put (subst (λ (x : List ℕ). AppendsBeginning now new (held ++ x)) shown_at_end h) }

    -- the lines of the answers were written, and nothing else
    pub lines_written : (new : Option (List ℕ)) → Appends now new held → Writes (IsRepliesText sim serial steps) old new
    lines_written new h = record {
      text = replies_text put.replies;
      right = record { replies = put.replies; end = end; are = put.are; lines = refl };
      written = written old now new held (replies_text put.replies) lines h;
    }

-- an error of which two things hold
pub both : {T B : Type 0} {P Q : Fault → Type 0} (r : Result T Fault) → ((fault : Fault) → P fault → B → Q fault) → IfErr r P → IfErr r (λ _. B) → IfErr r Q
both (Ok x) more p b = tt
both (Err fault) more p b = more fault p b
