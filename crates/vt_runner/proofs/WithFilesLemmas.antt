-- What a program of one model does some of whose options are files, by what its parts did.
use Rattle.std.proofs.Common.{◌≡◌, ◌⊎◌, ◌<◌, ◌+◌, ◌++◌, ◌∷◌, ◌∙◌, [], ℕ, List, Option, Result, Ok, Err, ap, inl, inr, subst, sym, length, map, get_or, take}
use Rattle.std.specs.Prelude.{⊤, OnOk, OnErr, IfErr, string_bytes}
use Rattle.std.specs.Global.{Vec}
use Rattle.std.specs.Io.KnownBytes.{Appends, Keeps}
use Rattle.std.proofs.KnownBytes.{Keeps-refl}
use Rattle.std.proofs.lemmas.List.{take_more, length-map}
use Rattle.std.proofs.lemmas.Option.{slice_get-get_or}
use Rattle.std.proofs.lemmas.Slice.Zip.{AllZip-long, all_zipped_more}
use Rattle.clap.specs.Words.{Text}
use Rattle.vt_key.specs.declared.fault.Fault.{Fault}
use Rattle.vt_key.specs.declared.fault.Fault.TheVariants.{Memory, NotLawful, Busy, Closed, Exhausted, TurnsSpent, BadOption, BadStep, Output}
use Rattle.vt_model.specs.promise.Handler.{Handlers}
use Rattle.vt_text.specs.promise.Writing.{AppendsBeginning}
use Rattle.vt_options.specs.declared.choices.Task.{Task}
use Rattle.vt_options.specs.declared.choices.Task.TheVariants.{Run, Replay}
use Rattle.vt_options.specs.declared.own.Chosen.{Chosen}
use Rattle.vt_options.specs.declared.own.FileChoice.{FileChoice}
use Rattle.vt_options.specs.declared.own.FileOption.{FileOption}
use Rattle.vt_options.specs.declared.own.OwnOption.{OwnOption}
use Rattle.vt_options.specs.promise.Asked.{AskTaskWith}
use Rattle.vt_options.specs.promise.Line.{given_by}
use Rattle.vt_options.specs.promise.Own.{AreWithin, GiveModel, GivePaths, app_for, line_for, only, path_of}
use Rattle.vt_options.specs.inside.Own.{file_names}
use Rattle.vt_options.specs.promise.Table.{Given}
use Rattle.vt_options.specs.promise.Requests.{AskHelpOf, IsRefusedAsOf}
use Rattle.vt_options.specs.inside.Requests.{IsRefusedByOf}
use Rattle.vt_options.specs.inside.Shown.{IsShownSentence}
use Rattle.vt_options.specs.promise.Tasks.{task_config}
use Rattle.vt_tasks.specs.promise.Models.{program_of}
use Rattle.vt_tasks.specs.inside.Models.{CarriesOut}
use Rattle.vt_tasks.specs.promise.Outcomes.{EndsWith}
use Rattle.vt_tasks.specs.promise.Refusals.{status_of}
use Rattle.vt_tasks.proofs.ModelsLemmas as models
use Rattle.vt_tasks.proofs.TaskLemmas.{input_kept}
use Rattle.vt_runner.proofs.OneModelLemmas.{values_are, within_are}
use Rattle.vt_runner.specs.declared.one_model.Made.{Made}
use Rattle.vt_runner.specs.declared.with_files.Unmade.{Unmade}
use Rattle.vt_runner.specs.declared.with_files.Refused.{Refused}
use Rattle.vt_runner.specs.declared.with_files.Refused.TheVariants.{Plain, Bad}
use Rattle.vt_runner.specs.promise.Files.{Told}
use Rattle.vt_runner.specs.inside.WithFiles.{AnswersWords, AreFilesRefused, AskBadLineWithFiles, CarriesWithFiles, IsDoneWithFiles, IsFileRefused, IsReadWithFiles, IsRefusedWith, MakesWithFiles, MayHaveAll, MayHaveAt, RefusesTask, TellsRefused, TellsWhy, meaning_with, own_models, plain, why_line}

module _ (name : Text) (own : List OwnOption) (files : List FileOption) (words : List Text) where
  abbrev given : Given
  given = given_by (app_for name (own_models own files)) words

  paths_given : (task : Task) (chosen : Chosen) → AskTaskWith name (own_models own files) words task chosen → GivePaths given (file_names files) (map path_of chosen.files.items)
  paths_given (Run s) chosen asked = asked.options.paths
  paths_given (Replay s) chosen asked = asked.options.paths

  module _ (task : Task) (chosen : Chosen) (asked : AskTaskWith name (own_models own files) words task chosen) where
    -- a value is given for each option that is a number, within its range, and a path or none for each that is a file
    model_given : GiveModel (only own) given chosen.model chosen.values.items
    model_given = let h = models.task_given name (own_models own files) words task chosen asked in record { chosen = h.chosen; values = h.values; within = h.within }

    pub values_given : length chosen.values.items ≡ length own
    values_given = values_are given own chosen.model chosen.values.items model_given

    pub within_given : AreWithin own chosen.values.items
    within_given = within_are given own chosen.model chosen.values.items model_given

    pub files_given : length chosen.files.items ≡ length files
    files_given =
        sym (length-map chosen.files.items path_of) ∙ sym (ap length (paths_given task chosen asked)) ∙ length-map (file_names files) (λ (n : Text). (n, given n))
        ∙ length-map files (λ (o : FileOption). o.name.now)

-- each option has its file, or none
pub as_many : (told : Told) (choices : List FileChoice) (files : List (Option (Vec ℕ))) → MayHaveAll told choices files → length files ≡ length choices
as_many told choices files has = AllZip-long (λ (c : FileChoice) (b : Option (Vec ℕ)). MayHaveAt told c.path b) choices files has

-- one file more
pub one_more : (told : Told) (choices : List FileChoice) (i : ℕ) (d : FileChoice) → i < length choices → (files : List (Option (Vec ℕ))) (bytes : Option (Vec ℕ))
    → MayHaveAt told (get_or choices i d).path bytes → MayHaveAll told (take i choices) files → MayHaveAll told (take (i + 1) choices) (files ++ bytes ∷ [])
one_more told choices i d h files bytes has before =
    subst (λ (l : List FileChoice). MayHaveAll told l (files ++ bytes ∷ [])) (sym (take_more choices i d h))
    (all_zipped_more (λ (c : FileChoice) (b : Option (Vec ℕ)). MayHaveAt told c.path b) (take i choices) files (get_or choices i d) bytes before has)

-- one that is refused
pub unread_here : (told : Told) (choices : List FileChoice) (i : ℕ) (d : FileChoice) → i < length choices → (r : Refused) → IsFileRefused told (get_or choices i d) r → AreFilesRefused told choices r
unread_here told choices i d h (Plain f) is = is
unread_here told choices i d h (Bad option text) is = record { index = i; choice = get_or choices i d; there = slice_get-get_or choices i d h; unread = is }

-- a line that was written, or a beginning of it
line_told : (old new : Option (List ℕ)) (line : List ℕ) (answer : Result ⊤ Fault) → OnOk answer (Appends old new line) → OnErr answer (AppendsBeginning old new line) → Appends old new line ⊎ AppendsBeginning old new line
line_told old new line (Ok done) written begun = inl written
line_told old new line (Err f) written begun = inr begun

-- tells why an option is bad
pub why_told : (name option said shown : Text) (line written : List ℕ) (old new : Option (List ℕ)) (answer : Result ⊤ Fault) → IsShownSentence said shown → line ≡ why_line name option shown → written ≡ line
    → OnOk answer (Appends old new written) → OnErr answer (AppendsBeginning old new written) → TellsWhy name option said old new
why_told name option said shown line written old new answer is_shown is same ok err = record {
  shown = shown;
  shown_is = is_shown;
  told = subst (λ (l : List ℕ). Appends old new l ⊎ AppendsBeginning old new l) (same ∙ is) (line_told old new written answer ok err);
}

-- no refusal has the status 0
status_some : (f : Fault) → status_of f ≡ 0 → ⊥
status_some Memory e = cc
status_some NotLawful e = cc
status_some Busy e = cc
status_some Closed e = cc
status_some Exhausted e = cc
status_some TurnsSpent e = cc
status_some (BadOption name) e = cc
status_some (BadStep line) e = cc
status_some Output e = cc

pub tells_some : (name : Text) (r : Refused) (status : ℕ) (old new : Option (List ℕ)) → TellsRefused name r status old new → status ≡ 0 → ⊥
tells_some name (Plain f) status old new t e = status_some f (let same : status_of f ≡ 0 = cc in same)
tells_some name (Bad option text) status old new (inl t) e = cc
tells_some name (Bad option text) status old new (inr t) e = cc

module _ {M S P K : Type 0} (handlers : M → Handlers S P K) (told : Told) (Gives : List ℕ → List (Option (Vec ℕ)) → Result (Made M) Unmade → Type 0) (chosen : Chosen) (task : Task) (remaining left old new : Option (List ℕ)) where
  -- there is no model, and nothing was read or written
  pub refused_carries : (r : Refused) → IsRefusedWith told Gives chosen (task_config task) r → CarriesWithFiles handlers told Gives chosen task remaining remaining old old (Err r)
  refused_carries (Plain f) h = record { ok = tt; err = inr (record { why = h; unread = Keeps-refl remaining; kept = Keeps-refl old }); unread = input_kept task remaining }
  refused_carries (Bad option text) h = (h, Keeps-refl remaining, Keeps-refl old)

  -- the task was carried out with one
  pub plain_carries : (answer : Result ⊤ Fault) → CarriesOut (meaning_with handlers) (MakesWithFiles told Gives) chosen task remaining left old new answer → CarriesWithFiles handlers told Gives chosen task remaining left old new (plain answer)
  plain_carries (Ok done) h = h
  plain_carries (Err f) h = h

module _ {M S P K : Type 0} (handlers : M → Handlers S P K) (told : Told) (Gives : List ℕ → List (Option (Vec ℕ)) → Result (Made M) Unmade → Type 0) (name : Text) (own : List OwnOption) (files : List FileOption) (words : List Text) (remaining left old new : Option (List ℕ)) where
  -- the words are refused
  pub words_answered : (f : Fault) → IsRefusedByOf (line_for name (own_models own files)) words f → AnswersWords handlers told Gives name own files words remaining remaining old old (Err (Plain f))
  words_answered f refused =
      (inl (models.words_refused (meaning_with handlers) (MakesWithFiles told Gives) name (own_models own files) words remaining old old (Keeps-refl old) f refused), inl (Keeps-refl remaining))

  -- they ask for help, which was written, or a beginning of it
  pub help_answered : (answer : Result ⊤ Fault) (text : List ℕ) → AskHelpOf (app_for name (own_models own files)) words → OnOk answer (Appends old new text) → OnErr answer (AppendsBeginning old new text) → IfErr answer (λ f. f ≡ Output)
      → AnswersWords handlers told Gives name own files words remaining remaining old new (plain answer)
  help_answered (Ok done) text asked written begun is = (inl (record { asked = asked; text = text; written = written }), inl (Keeps-refl remaining))
  help_answered (Err f) text asked written begun is =
      (inl (subst (λ (x : Fault). EndsWith (program_of (meaning_with handlers) (MakesWithFiles told Gives) name (own_models own files)) words x remaining old new) (sym is) (inl (record { asked = asked; text = text; begun = begun }))), inl (Keeps-refl remaining))

  -- a task that the words ask for was carried out
  pub task_answered : (task : Task) (chosen : Chosen) → AskTaskWith name (own_models own files) words task chosen → (answer : Result ⊤ Refused)
      → CarriesWithFiles handlers told Gives chosen task remaining left old new answer → AnswersWords handlers told Gives name own files words remaining left old new answer
  task_answered task chosen asked (Ok done) h = (
    models.task_done (meaning_with handlers) (MakesWithFiles told Gives) name (own_models own files) words remaining left old new task chosen asked h.ok,
    models.task_read (meaning_with handlers) (MakesWithFiles told Gives) name (own_models own files) words remaining left old new task chosen (Ok done) asked h,
  )
  task_answered task chosen asked (Err (Plain f)) h = (
    elim h.err [
      | inl stops ↦ inl (models.task_ends (meaning_with handlers) (MakesWithFiles told Gives) name (own_models own files) words remaining left old new task chosen asked f stops)
      | inr none ↦ models.none_made (meaning_with handlers) (MakesWithFiles told Gives) name (own_models own files) words remaining old new none.kept task chosen f asked none.why
    ],
    models.task_read (meaning_with handlers) (MakesWithFiles told Gives) name (own_models own files) words remaining left old new task chosen (Err f) asked h,
  )
  task_answered task chosen asked (Err (Bad option text)) h = (record { task = task; chosen = chosen; asked = asked; refused = h.0; kept = h.2 }, h.1)

  -- the reader was kept, or the words ask for a replay
  pub read_so : (r : Refused) → AnswersWords handlers told Gives name own files words remaining left old new (Err r) → IsReadWithFiles handlers told Gives name own files words remaining left
  read_so (Plain f) h = h.1
  read_so (Bad option text) h = inl h.1

  module _ (status : ℕ) (errors errors' : Option (List ℕ)) where
    -- a refusal that was told
    pub told_so : (r : Refused) → AnswersWords handlers told Gives name own files words remaining left old new (Err r) → TellsRefused name r status errors errors'
        → RefusesTask handlers told Gives name own files words status remaining old new errors errors'
    told_so (Plain f) h t = inl (f, t.0, h.0, t.1)
    told_so (Bad option text) h (inl t) = inr (option.now, string_bytes text, t.0, h.0, t.1)
    told_so (Bad option text) h (inr t) = inl (Memory, t.0, inl (inl h.0.kept), t.1)

    -- words that are refused and don't ask for help are never answered, and nothing is written for them
    pub refused_kept : (bad : Text) → IsRefusedAsOf (line_for name (own_models own files)) words bad → ¬ AskHelpOf (app_for name (own_models own files)) words
        → RefusesTask handlers told Gives name own files words status remaining old new errors errors' → Keeps old new
    refused_kept bad refused no_help (inl h) = models.nothing_written (meaning_with handlers) (MakesWithFiles told Gives) name (own_models own files) words bad remaining old new h.0 refused no_help h.2
    refused_kept bad refused no_help (inr h) = h.3.kept

    -- nor is a text with a bad line
    pub bad_kept : AskBadLineWithFiles handlers told Gives name own files words remaining → RefusesTask handlers told Gives name own files words status remaining old new errors errors' → Keeps old new
    bad_kept bad (inl h) = models.bad_nothing_written (meaning_with handlers) (MakesWithFiles told Gives) name (own_models own files) words remaining old new h.0 bad h.2
    bad_kept bad (inr h) = h.3.kept

  pub refused_undone : (bad : Text) → IsRefusedAsOf (line_for name (own_models own files)) words bad → ¬ AskHelpOf (app_for name (own_models own files)) words → IsDoneWithFiles handlers told Gives name own files words remaining old new → ⊥
  refused_undone bad refused no_help done = models.not_done (meaning_with handlers) (MakesWithFiles told Gives) name (own_models own files) words bad remaining old new refused no_help done

  pub bad_undone : AskBadLineWithFiles handlers told Gives name own files words remaining → IsDoneWithFiles handlers told Gives name own files words remaining old new → ⊥
  bad_undone bad done = models.bad_not_done (meaning_with handlers) (MakesWithFiles told Gives) name (own_models own files) words remaining old new bad done
