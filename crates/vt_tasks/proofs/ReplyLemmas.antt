-- What steps are answered, one after the other, and the lines of the answers.
use Rattle.std.proofs.Common.{◌≡◌, ℕ, ◌+◌, ◌<◌, ◌⊎◌, ◌/◌, Bool, true, false, List, [], ◌∷◌, ◌++◌, length, take, drop, get_or, Option, Some, None, slice_get, Result, Ok, Err, ap, sym, subst, ◌∙◌, refl, inl, inr, append_assoc, append-nil, arith, take-append-drop}
use Rattle.std.specs.Prelude.{IsTrue, if◌then◌else◌}
use Rattle.std.specs.Option.{IsSomeAnd, option_and_then}
use Rattle.std.proofs.lemmas.List.{take_more}
use Rattle.std.proofs.lemmas.Grind.{flat_map-append}
use Rattle.vt_key.specs.declared.fault.Fault.{Fault}
use Rattle.vt_key.specs.declared.fault.Fault.TheVariants.{Exhausted}
use Rattle.vt_key.specs.declared.limits.TheConstants.{MAX_COUNT}
use Rattle.vt_model.specs.promise.Handler.{Handlers}
use Rattle.vt_model.specs.promise.Simulation.{Simulation, simulation_of}
use Rattle.vt_steps.specs.declared.step.Step.{Step}
use Rattle.vt_steps.specs.declared.step.Step.TheVariants.{Execute, Undo, Cancel, Home, Send, Fetch, Accept, Cut, Report, Commit, Close}
use Rattle.vt_steps.specs.promise.Letters.{count_of}
use Rattle.vt_lp.specs.promise.Guards.{number_of}
use Rattle.vt_kernel.specs.promise.Refusals.{IsSpent, PassesIn, PassesLimit}
use Rattle.vt_steps.specs.declared.step.Reply.{Reply}
use Rattle.vt_steps.specs.promise.World.{Part, World}
use Rattle.vt_steps.specs.promise.Next.{Outcome, next}
use Rattle.vt_steps.specs.promise.Cells.{worker_of}
use Rattle.vt_steps.proofs.steps.Refusals.{refusals}
use Rattle.vt_world.specs.promise.Calls.{RunWorld, IsStepOf}
use Rattle.vt_step_text.specs.declared.reading.NumberedStep.{NumberedStep}
use Rattle.vt_step_text.specs.promise.Replies.{NumberedAnswer, reply_text, replies_text}
use Rattle.vt_step_text.specs.promise.Replays.{is_no_step, world_after, AreAnswered}
use Rattle.vt_tasks.specs.promise.Replays.{IsExact, AreExact, AreReplies}
use Rattle.vt_tasks.specs.inside.Replying.{PutsReplies, StopsReplies}
use Rattle.vt_text.specs.promise.Writing.{AppendsBeginning}
use Rattle.vt_text.specs.inside.Writing.{AppendsAllButHeld}
use Rattle.vt_text.proofs.TextLemmas.{put_on, put_fails, of_longer}
use Rattle.std.proofs.KnownBytes.{Appends-nil}
use Rattle.std.proofs.lemmas.Bool.{cases_lt}

-- the answer of a line
abbrev pub answered : ℕ → Result Reply Fault → NumberedAnswer
answered line answer = record { line = line; answer = answer }

-- ---- whether a counter would pass its limit

abbrev Decided : Type 0 → Type 0
Decided A = A ⊎ (A → ⊥)

past_or_within : (n : ℕ) → Decided (MAX_COUNT < n)
past_or_within n = elim (cases_lt MAX_COUNT n) [ inl past ↦ inl past | inr within ↦ inr (λ past. absurd (omega (arith, past, within))) ]

one_or_none : {A B : Type 0} → Decided A → Decided B → Decided (A ⊎ B)
one_or_none (inl a) b = inl (inl a)
one_or_none (inr n) (inl b) = inl (inr b)
one_or_none (inr n) (inr m) = inr (λ h. elim h [ inl a ↦ n a | inr b ↦ m b ])

-- of what may be there
some_or_not : {X : Type 0} (Q : X → Type 0) → ((x : X) → Decided (Q x)) → (o : Option X) → Decided (IsSomeAnd o Q)
some_or_not Q decide None = inr (λ h. h)
some_or_not Q decide (Some x) = decide x

passes_in_or_not : {S P : Type 0} (sim : Simulation S P) (step : Step) (part : Part P) (rounds : ℕ) → Decided (PassesIn sim step part rounds)
passes_in_or_not sim (Execute p) part rounds =
    one_or_none (past_or_within part.serial) (some_or_not _ (λ process. past_or_within (number_of sim p process)) (slice_get part.processes (p / sim.workers)))
passes_in_or_not sim (Send w v) part rounds = past_or_within (count_of part.sent part.colour)
passes_in_or_not sim (Fetch w) part rounds = one_or_none (past_or_within part.got.white) (past_or_within part.got.red)
passes_in_or_not sim (Cut w) part rounds = past_or_within rounds
passes_in_or_not sim (Undo p) part rounds = inr (λ h. h)
passes_in_or_not sim (Cancel p stamp) part rounds = inr (λ h. h)
passes_in_or_not sim (Home w) part rounds = inr (λ h. h)
passes_in_or_not sim (Accept w i) part rounds = inr (λ h. h)
passes_in_or_not sim (Report w) part rounds = inr (λ h. h)
passes_in_or_not sim (Commit w) part rounds = inr (λ h. h)
passes_in_or_not sim Close part rounds = inr (λ h. h)

passes_or_not : {S P : Type 0} (sim : Simulation S P) (step : Step) (after : World P) → Decided (PassesLimit sim step after)
passes_or_not sim step after = some_or_not _ (λ part. passes_in_or_not sim step part after.board.rounds) (option_and_then (slice_get after.parts) (worker_of sim step))

module _ {S P : Type 0} (sim : Simulation S P) where
  -- no step
  pub no_replies : (world : World P) → AreReplies sim world [] [] world
  no_replies world = record { answered = refl; exact = tt }

  answered-append : (world mid end : World P) (xs ys : List NumberedStep) (rs qs : List NumberedAnswer) → AreAnswered sim world xs rs mid → AreAnswered sim mid ys qs end → AreAnswered sim world (xs ++ ys) (rs ++ qs) end
  answered-append world mid end [] ys [] qs h k = subst (λ (w : World P). AreAnswered sim w ys qs end) h k
  answered-append world mid end [] ys (r ∷ rs) qs h k = absurd h
  answered-append world mid end (x ∷ xs) ys [] qs h k = absurd h
  answered-append world mid end (x ∷ xs) ys (r ∷ rs) qs h k = (h.0, answered-append (world_after sim world x.step r.answer) mid end xs ys rs qs h.1 k)

  exact-append : (world mid : World P) (xs ys : List NumberedStep) (rs qs : List NumberedAnswer) → AreAnswered sim world xs rs mid → AreExact sim world xs rs → AreExact sim mid ys qs → AreExact sim world (xs ++ ys) (rs ++ qs)
  exact-append world mid [] ys [] qs h s k = subst (λ (w : World P). AreExact sim w ys qs) h k
  exact-append world mid [] ys (r ∷ rs) qs h s k = absurd h
  exact-append world mid (x ∷ xs) ys [] qs h s k = absurd h
  exact-append world mid (x ∷ xs) ys (r ∷ rs) qs h s k = (s.0, exact-append (world_after sim world x.step r.answer) mid xs ys rs qs h.1 s.1 k)

  -- some steps and then more
  pub more_replies : (world mid end : World P) (xs ys : List NumberedStep) (rs qs : List NumberedAnswer) → AreReplies sim world xs rs mid → AreReplies sim mid ys qs end → AreReplies sim world (xs ++ ys) (rs ++ qs) end
  more_replies world mid end xs ys rs qs h k = record {
    answered = answered-append world mid end xs ys rs qs h.answered k.answered;
    exact = exact-append world mid xs ys rs qs h.answered h.exact k.exact;
  }

  -- a refusal by definition never stands for no step
  lawless : (world : World P) (step : Step) (fault : Fault) → (next sim world step).answer ≡ Err fault → IsExact sim world step (Err fault)
  lawless world step fault e t =
      elim ((refusals sim world step).other fault e) [
        | inl p ↦ (let f : is_no_step (Err fault) ≡ false = ap (λ (x : Fault). is_no_step (Err x)) p in absurd cc)
        | inr p ↦ (let f : is_no_step (Err fault) ≡ false = ap (λ (x : Fault). is_no_step (Err x)) p in absurd cc)
      ]

  -- answers that steps may have
  pub record HaveReplies (world : World P) (steps : List NumberedStep) : Type 0 where
    pub replies : List NumberedAnswer
    pub end : World P
    pub are : AreReplies sim world steps replies end

  -- each step has one: that by definition, or where a counter would pass its limit a refusal
  pub record HasAnswer (world : World P) (step : Step) : Type 0 where
    pub answer : Result Reply Fault
    pub may : IsTrue (is_no_step answer) ⊎ (answer ≡ (next sim world step).answer)
    pub exact : IsExact sim world step answer

  has_answer : (world : World P) (step : Step) → HasAnswer world step
  has_answer world step = go (next sim world step).answer refl where
    go : (answer : Result Reply Fault) → (next sim world step).answer ≡ answer → HasAnswer world step
    go (Err fault) e = record { answer = Err fault; may = inr (sym e); exact = lawless world step fault e }
    go (Ok reply) e = elim (passes_or_not sim step (next sim world step).world) [
      | inl passes ↦ record { answer = Err Exhausted; may = inl refl; exact = λ _. (reply, e, inl (refl, passes)) }
      | inr within ↦ record { answer = Ok reply; may = inr (sym e); exact = within }
    ]

  -- so any steps have some
  pub have_replies : (world : World P) (steps : List NumberedStep) → HaveReplies world steps
  have_replies world [] = record { replies = []; end = world; are = no_replies world }
  have_replies world (step ∷ steps) =
      let first = has_answer world step.step in
      let rest = have_replies (world_after sim world step.step first.answer) steps in
      record {
        replies = answered step.line first.answer ∷ rest.replies;
        end = rest.end;
        are = record {
          answered = (record { line = refl; answer = first.may }, rest.are.answered);
          exact = (first.exact, rest.are.exact);
        };
      }

  -- ---- one step

  after_refused : (b : Bool) (world other : World P) → other ≡ world → (if b then world else other) ≡ world
  after_refused true world other e = refl
  after_refused false world other e = e

  after_no_step : (b : Bool) (world other : World P) → IsTrue b → (if b then world else other) ≡ world
  after_no_step true world other t = refl
  after_no_step false world other t = absurd cc

  is_spent : (world : World P) (step : Step) (fault : Fault) → IsSpent sim step world fault → IsTrue (is_no_step (Err fault))
  is_spent world step fault spent =
      elim spent.2 [
        | inl b ↦ subst (λ (x : Fault). IsTrue (is_no_step (Err x))) (sym b.0) refl
        | inr b ↦ subst (λ (x : Fault). IsTrue (is_no_step (Err x))) (sym b.0) refl
      ]

  -- what a world does at a step is a reply of the step
  one_reply : (step : NumberedStep) (old new : World P) (answer : Result Reply Fault) → IsStepOf sim step.step old new answer → AreReplies sim old (step ∷ []) (answered step.line answer ∷ []) new
  one_reply step old new (Ok reply) is = record {
    answered = (record { line = refl; answer = inr (ap (λ (o : Outcome P). o.answer) (sym is.0)) }, ap (λ (o : Outcome P). o.world) (sym is.0));
    exact = (subst (λ (o : Outcome P). PassesLimit sim step.step o.world → ⊥) (sym is.0) is.1, tt);
  }
  one_reply step old new (Err fault) is =
      let after = (next sim old step.step).world in
      elim is.1 [
        | inl e ↦ record {
          answered = (record { line = refl; answer = inr (sym e) }, is.0 ∙ sym (after_refused (is_no_step (Err fault)) old after ((refusals sim old step.step).keeps fault e)));
          exact = (lawless old step.step fault e, tt);
        }
        | inr spent ↦ record {
          answered = (record { line = refl; answer = inl (is_spent old step.step fault spent) }, is.0 ∙ sym (after_no_step (is_no_step (Err fault)) old after (is_spent old step.step fault spent)));
          exact = ((λ _. spent), tt);
        }
      ]

-- a step of a world is one by the model and the config that it had at first
pub step_there : {M S P K : Type 0} (meaning : M → Handlers S P K) (step : Step) (answer : Result Reply Fault) (first old new : RunWorld M P) → old.model ≡ first.model → old.config ≡ first.config
    → IsStepOf (simulation_of (meaning old.model) old.config) step old.world new.world answer → IsStepOf (simulation_of (meaning first.model) first.config) step old.world new.world answer
step_there meaning step answer first old new model config is =
    subst (λ (s : Simulation _ _). IsStepOf s step old.world new.world answer) (λ i. simulation_of (meaning (model i)) (config i)) is

-- the lines of one answer more
pub one_more_line : (replies : List NumberedAnswer) (line : ℕ) (answer : Result Reply Fault) → replies_text (replies ++ answered line answer ∷ []) ≡ replies_text replies ++ reply_text line answer
one_more_line replies line answer =
    flat_map-append (λ (r : NumberedAnswer). reply_text r.line r.answer) replies (answered line answer ∷ []) ∙ ap (λ l. replies_text replies ++ l) (append-nil (reply_text line answer))

-- ---- the lines of answers, as they are put

module _ {S P : Type 0} (sim : Simulation S P) where
  -- no line
  pub puts_none : (world : World P) (out : Option (List ℕ)) (held : List ℕ) → PutsReplies sim world [] world out out held held
  puts_none world out held = record {
    replies = [];
    are = no_replies sim world;
    put = record { sent = []; whole = append-nil held; appends = Appends-nil out };
  }

  module _ (steps : List NumberedStep) (i : ℕ) (d : NumberedStep) (within : i < length steps) (answer : Result Reply Fault) (from old new : World P) (is : IsStepOf sim (get_or steps i d).step old new answer) where
    abbrev more_lines : List NumberedAnswer → List NumberedAnswer
    more_lines rs = rs ++ answered (get_or steps i d).line answer ∷ []

    abbrev line : List ℕ
    line = reply_text (get_or steps i d).line answer

    lines_on : (held : List ℕ) (rs : List NumberedAnswer) → (held ++ replies_text rs) ++ line ≡ held ++ replies_text (more_lines rs)
    lines_on held rs = append_assoc held (replies_text rs) line ∙ ap (λ l. held ++ l) (sym (one_more_line rs (get_or steps i d).line answer))

    more_are : (rs : List NumberedAnswer) → AreReplies sim from (take i steps) rs old → AreReplies sim from (take (i + 1) steps) (more_lines rs) new
    more_are rs are =
        let step = get_or steps i d in
        subst (λ (xs : List NumberedStep). AreReplies sim from xs (more_lines rs) new) (sym (take_more steps i d within))
        (more_replies sim from old new (take i steps) (step ∷ []) rs (answered step.line answer ∷ []) are (one_reply sim step old new answer is))

    module _ (before now after : Option (List ℕ)) (held held1 : List ℕ) (h : PutsReplies sim from (take i steps) old before now held held1) where
      -- one line more
      pub puts_more : (held2 : List ℕ) → AppendsAllButHeld now after held2 (held1 ++ line) → PutsReplies sim from (take (i + 1) steps) new before after held held2
      puts_more held2 k = record {
        replies = more_lines h.replies;
        are = more_are h.replies h.are;
        put = subst (λ (l : List ℕ). AppendsAllButHeld before after held2 l) (lines_on held h.replies) (put_on before now after held1 held2 (held ++ replies_text h.replies) line h.put k);
      }

      -- the lines stop there
      pub puts_stop : AppendsBeginning now after (held1 ++ line) → StopsReplies sim from steps before after held
      puts_stop k =
          let so_far = more_lines h.replies in
          let rest = have_replies sim new (drop (i + 1) steps) in
          record {
            replies = so_far ++ rest.replies;
            end = rest.end;
            are = subst (λ (xs : List NumberedStep). AreReplies sim from xs (so_far ++ rest.replies) rest.end) (take-append-drop (i + 1) steps)
                (more_replies sim from new rest.end (take (i + 1) steps) (drop (i + 1) steps) so_far rest.replies (more_are h.replies h.are) rest.are);
            begun = subst (λ (l : List ℕ). AppendsBeginning before after l)
                (ap (λ l. l ++ replies_text rest.replies) (lines_on held h.replies) ∙ append_assoc held (replies_text so_far) (replies_text rest.replies) ∙ ap (λ l. held ++ l) (sym (flat_map-append (λ (r : NumberedAnswer). reply_text r.line r.answer) so_far rest.replies)))
                (of_longer before after ((held ++ replies_text h.replies) ++ line) (replies_text rest.replies) (put_fails before now after held1 (held ++ replies_text h.replies) line h.put k));
          }
