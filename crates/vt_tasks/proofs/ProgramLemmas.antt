-- What a program of models does, by what the call that carries its tasks out does.
use Rattle.std.proofs.Common.{◌≡◌, ◌≢◌, ℕ, List, Option, Result, Ok, Err, inl, inr, sym, subst}
use Rattle.std.specs.Prelude.{⊤, OnOk, IfErr}
use Rattle.std.specs.Fn.{Once}
use Rattle.std.specs.Io.KnownBytes.{Keeps}
use denote.Ref.{Bor, MutBor}
use Rattle.clap.specs.Words.{Text}
use Rattle.vt_key.specs.declared.fault.Fault.{Fault}
use Rattle.vt_key.specs.declared.fault.Fault.TheVariants.{Output}
use Rattle.vt_model.specs.declared.settings.Config.{Config}
use Rattle.vt_options.specs.declared.choices.Task.{Task}
use Rattle.vt_options.specs.declared.own.Chosen.{Chosen}
use Rattle.vt_options.specs.promise.Own.{Models, app_for, line_for}
use Rattle.vt_options.specs.promise.Requests.{AskHelpOf, IsRefusedAsOf}
use Rattle.vt_tasks.specs.promise.Outcomes.{BeginsHelp, EndsWith}
use Rattle.vt_tasks.specs.inside.Programs.{CallAnswers, IsTaskAnswered, IsDoneByCall, EndsByCall, IsReadByCall}
use Rattle.vt_tasks.specs.promise.Models.{AnyHandlers, Making, program_of, IsDoneFor, EndsFor, IsReadFor, AskBadLineFor}
use Rattle.vt_tasks.specs.inside.Models.{CarriesOut}
use Rattle.vt_tasks.specs.promise.Refusals.{status_of}
use Rattle.vt_tasks.proofs.ModelsLemmas as models

module _ (name : Text) (table : Models) (words : List Text) (Answers : Chosen → Task → Result ⊤ Fault → Type 0) (old new : Option (List ℕ)) where
  -- a task that was done is what the words ask for
  pub answer_done : (answer : Result ⊤ Fault) → IsTaskAnswered name table words Answers answer → OnOk answer (IsDoneByCall name table words Answers old new)
  answer_done (Ok done) h = inr h
  answer_done (Err fault) h = tt

  -- one that was refused ends the program so
  pub answer_ends : (answer : Result ⊤ Fault) → IsTaskAnswered name table words Answers answer → IfErr answer (λ fault. EndsByCall name table words Answers fault old new)
  answer_ends (Ok done) h = tt
  answer_ends (Err fault) h = inr (inr h)

module _ {C F H Z W R O : Type 0} (meaning : C → AnyHandlers) (Makes : Chosen → Config → Making C → Type 0) (remaining : R → Option (List ℕ)) (contents : O → Option (List ℕ)) {g : Once F (Bor H × (Z × (Bor Chosen × (Bor Task × (Bor W × (MutBor R × (MutBor O × Unit {0}))))))) (Result ⊤ Fault × (MutBor R × (MutBor O × Unit {0})))} {f : F} {reader reader' : R} {out out' : O} {chosen : Chosen} {task : Task} {answer : Result ⊤ Fault} where
  -- a call that carries tasks out on a model does so for what it is handed
  pub carried : CallAnswers g (λ given told. told ≡ given) f reader reader' out out' chosen task answer
      → ((at_rt : Bor H) (at_alloc : Z) (at_chosen : Bor Chosen) (at_task : Bor Task) (at_watch : Bor W) (at_reader : MutBor R) (at_out : MutBor O) (given : Result ⊤ Fault) (left_reader : MutBor R) (left_out : MutBor O)
      → g.post f (at_rt, (at_alloc, (at_chosen, (at_task, (at_watch, (at_reader, (at_out, tt))))))) (given, (left_reader, (left_out, tt)))
      → CarriesOut meaning Makes at_chosen.now at_task.now (remaining at_reader.now) (remaining left_reader.now) (contents at_out.now) (contents left_out.now) given)
      → CarriesOut meaning Makes chosen task (remaining reader) (remaining reader') (contents out) (contents out') answer
  carried h says =
      let met = says h.at_rt h.at_alloc h.at_chosen h.at_task h.at_watch h.at_reader h.at_out h.given h.left_reader h.left_out h.met in
      let of_chosen = subst (λ (x : Chosen). CarriesOut meaning Makes x h.at_task.now (remaining h.at_reader.now) (remaining h.left_reader.now) (contents h.at_out.now) (contents h.left_out.now) h.given) h.shows.0 met in
      let of_task = subst (λ (x : Task). CarriesOut meaning Makes chosen x (remaining h.at_reader.now) (remaining h.left_reader.now) (contents h.at_out.now) (contents h.left_out.now) h.given) h.shows.1 of_chosen in
      let from_reader = subst (λ (x : R). CarriesOut meaning Makes chosen task (remaining x) (remaining h.left_reader.now) (contents h.at_out.now) (contents h.left_out.now) h.given) h.shows.2 of_task in
      let from_out = subst (λ (x : O). CarriesOut meaning Makes chosen task (remaining reader) (remaining h.left_reader.now) (contents x) (contents h.left_out.now) h.given) h.shows.3 from_reader in
      let to_reader = subst (λ (x : R). CarriesOut meaning Makes chosen task (remaining reader) (remaining x) (contents out) (contents h.left_out.now) h.given) h.leaves.0 from_out in
      let to_out = subst (λ (x : O). CarriesOut meaning Makes chosen task (remaining reader) (remaining reader') (contents out) (contents x) h.given) h.leaves.1 to_reader in
      subst (λ (x : Result ⊤ Fault). CarriesOut meaning Makes chosen task (remaining reader) (remaining reader') (contents out) (contents out') x) (sym h.converted) to_out

module _ {C : Type 0} (meaning : C → AnyHandlers) (Makes : Chosen → Config → Making C → Type 0) (name : Text) (table : Models) (words : List Text) (remaining left old new : Option (List ℕ)) where
  -- help that was written in part ends the program so
  help_ends : (fault : Fault) → fault ≡ Output → BeginsHelp (app_for name table) words old new → EndsWith (program_of meaning Makes name table) words fault remaining old new
  help_ends fault is h = subst (λ (f : Fault). EndsWith (program_of meaning Makes name table) words f remaining old new) (sym is) (inl h)

  -- each answer is that of a task that was carried out on a model
  abbrev Carry : (Chosen → Task → Result ⊤ Fault → Type 0) → Type 0
  Carry Answers = (chosen : Chosen) (task : Task) (answer : Result ⊤ Fault) → Answers chosen task answer → CarriesOut meaning Makes chosen task remaining left old new answer

  module _ (Answers : Chosen → Task → Result ⊤ Fault → Type 0) where
    -- what the words ask for was done
    program_done : IsDoneByCall name table words Answers old new → Carry Answers → IsDoneFor meaning Makes name table words remaining old new
    program_done (inl help) carry = inl help
    program_done (inr h) carry =
        models.task_done meaning Makes name table words remaining left old new h.task h.chosen h.asked (carry h.chosen h.task _ h.answered).ok

    -- or it was refused
    program_ends : (fault : Fault) → EndsByCall name table words Answers fault old new → Carry Answers → EndsFor meaning Makes name table fault words remaining old new
    program_ends fault (inl refused) carry = inl (models.words_refused meaning Makes name table words remaining old new refused.1 fault refused.0)
    program_ends fault (inr (inl help)) carry = inl (help_ends fault help.0 help.1)
    program_ends fault (inr (inr h)) carry =
        elim (carry h.chosen h.task _ h.answered).err [
          | inl stops ↦ inl (models.task_ends meaning Makes name table words remaining left old new h.task h.chosen h.asked fault stops)
          | inr none ↦ models.none_made meaning Makes name table words remaining old new none.kept h.task h.chosen fault h.asked none.why
        ]

    -- the reader was kept, or the words ask for a replay
    program_read : IsReadByCall name table words Answers remaining left → Carry Answers → IsReadFor meaning Makes name table words remaining left
    program_read (inl kept) carry = inl kept
    program_read (inr h) carry = models.task_read meaning Makes name table words remaining left old new h.1.task h.1.chosen h.0 h.1.asked (carry h.1.chosen h.1.task _ h.1.answered)

  -- a program that returned this status did so, and told a refusal so
  pub record EndsAs (status : ℕ) (Tells : Fault → Type 0) : Type 0 where
    pub done : status ≡ 0 → IsDoneFor meaning Makes name table words remaining old new
    pub refused : status ≢ 0 → (fault : Fault) × (status ≡ status_of fault) × EndsFor meaning Makes name table fault words remaining old new × Tells fault
    pub read : IsReadFor meaning Makes name table words remaining left

  -- one whose call carries tasks out did
  pub ends_as : (Answers : Chosen → Task → Result ⊤ Fault → Type 0) (status : ℕ) (Tells : Fault → Type 0) → (status ≡ 0 → IsDoneByCall name table words Answers old new)
      → (status ≢ 0 → (fault : Fault) × (status ≡ status_of fault) × EndsByCall name table words Answers fault old new × Tells fault) → IsReadByCall name table words Answers remaining left → Carry Answers → EndsAs status Tells
  ends_as Answers status Tells done refused read carry = record {
    done = λ zero. program_done Answers (done zero) carry;
    refused = λ other. let told = refused other in (told.0, told.1, program_ends Answers told.0 told.2 carry, told.3);
    read = program_read Answers read carry;
  }

  module _ {status : ℕ} {Tells : Fault → Type 0} (h : EndsAs status Tells) where
    -- words that are refused and don't ask for help are never answered, and nothing is written for them
    pub untouched : (bad : Text) → IsRefusedAsOf (line_for name table) words bad → ¬ AskHelpOf (app_for name table) words → (status ≢ 0) × Keeps old new
    untouched bad refused no_help =
        let other : (status ≡ 0 → ⊥) = λ zero. models.not_done meaning Makes name table words bad remaining old new refused no_help (h.done zero) in
        let told = h.refused other in
        (other, models.nothing_written meaning Makes name table words bad remaining old new told.0 refused no_help told.2)

    -- nor is a text with a bad line
    pub unrun : AskBadLineFor meaning Makes name table words remaining → (status ≢ 0) × Keeps old new
    unrun bad =
        let other : (status ≡ 0 → ⊥) = λ zero. models.bad_not_done meaning Makes name table words remaining old new bad (h.done zero) in
        let told = h.refused other in
        (other, models.bad_nothing_written meaning Makes name table words remaining old new told.0 bad told.2)
