-- The options of a model, one after the other.
use Rattle.std.proofs.Common.{◌≡◌, ◌<◌, ◌+◌, ◌++◌, ◌∙◌, ℕ, List, [], ◌∷◌, Option, Some, None, ap, ap₂, sym, refl, subst, inl, inr, codes, length, take, drop, get_or, map, Bool, true, false}
use Rattle.std.specs.List.{list_all}
use Rattle.std.proofs.lemmas.List.{take_more, drop_more, map-append, take-append-drop}
use Rattle.std.proofs.lemmas.List.Folds.{list_all_at}
use Rattle.std.proofs.lemmas.Slice.Zip.{all_zipped_more}
use Rattle.clap.specs.Words.{Text}
use Rattle.vt_key.specs.declared.fault.Fault.{Fault}
use Rattle.vt_key.specs.declared.fault.Fault.TheVariants.{Memory, BadOption}
use Rattle.vt_model.specs.promise.Settings.{is_between}
use Rattle.vt_options.specs.declared.asking.Request.{Request}
use Rattle.vt_options.specs.declared.asking.Request.TheVariants as request
use Rattle.vt_options.specs.declared.choices.Task.TheVariants.{Run, Replay}
use Rattle.vt_options.specs.declared.choices.RunSettings.{RunSettings}
use Rattle.vt_options.specs.declared.choices.ReplaySettings.{ReplaySettings}
use Rattle.vt_options.specs.declared.own.OwnOption.{OwnOption}
use Rattle.vt_options.specs.declared.programs.ProgramChoice.{ProgramChoice}
use Rattle.vt_options.specs.promise.Line.{given_by, texts_by}
use Rattle.vt_options.specs.promise.Requests.{AreBy}
use Rattle.vt_options.specs.inside.Requests.{IsRefusedByOf}
use Rattle.vt_options.specs.promise.Table.{Given, NumberOption, bad, bad_number, first_name, first_bad_of, value_in}
use Rattle.vt_options.specs.promise.Own.{AreInRange, AreWithin, GiveRun, GiveReplay, GiveValues, Models, OptionPath, app_for, first_bad_of_run, first_bad_of_replay, line_for, number_option, number_table, path_of}
use Rattle.vt_options.specs.inside.Own.{NamesBad}
use Rattle.vt_options.specs.inside.Asked.{AsksReplay, AsksRun, IsAsked}
use Rattle.vt_options.proofs.RequestLemmas as requests

-- each element passes a test that all pass
pub all_at : {X : Type 0} (p : X → Bool) (xs : List X) (i : ℕ) (d : X) → i < length xs → list_all p xs ≡ true → p (get_or xs i d) ≡ true
all_at p xs i d h all =
    elim (p (get_or xs i d)) as (λ b. p (get_or xs i d) ≡ b → b ≡ true) [
      | true ↦ λ is. refl
      | false ↦ λ is. let both : true ≡ false = sym all ∙ list_all_at p xs i d h is in absurd cc
    ] refl

-- a name alone is the first
pub only : (o : Option Text) → first_name (o ∷ []) ≡ o
only None = refl
only (Some name) = refl

module _ (given : Given) where
  -- behind options that have values the first bad one is that of the rest
  behind_good : (xs ys : List NumberOption) → first_bad_of given xs ≡ None → first_bad_of given (xs ++ ys) ≡ first_bad_of given ys
  behind_good [] ys good = refl
  behind_good (x ∷ xs) ys good =
      elim (bad_number given x) as (λ b. first_name (b ∷ first_bad_of given xs ∷ []) ≡ None → first_name (b ∷ first_bad_of given (xs ++ ys) ∷ []) ≡ first_bad_of given ys) [
        | None ↦ λ g. only (first_bad_of given (xs ++ ys)) ∙ behind_good xs ys (sym (only (first_bad_of given xs)) ∙ g)
        | Some name ↦ λ g. absurd cc
      ] good

  module _ (own : List OwnOption) (i : ℕ) (d : OwnOption) (h : i < length own) where
    -- one option more of the table
    table_more : number_table (take (i + 1) own) ≡ number_table (take i own) ++ number_option (get_or own i d) ∷ []
    table_more = ap number_table (take_more own i d h) ∙ map-append number_option (take i own) (get_or own i d ∷ [])

    module _ (v : ℕ) (is : value_in given (number_option (get_or own i d)) ≡ Some v) where
      -- it has this value
      pub values_more : (values : List ℕ) → GiveValues given (number_table (take i own)) values → GiveValues given (number_table (take (i + 1) own)) (values ++ v ∷ [])
      values_more values before =
          ap (map (value_in given)) table_more
          ∙ map-append (value_in given) (number_table (take i own)) (number_option (get_or own i d) ∷ [])
          ∙ ap₂ (λ (a : List (Option ℕ)) (b : Option ℕ). a ++ b ∷ []) before is
          ∙ sym (map-append Some values (v ∷ []))

      -- so no option is bad so far
      pub good_more : first_bad_of given (number_table (take i own)) ≡ None → first_bad_of given (number_table (take (i + 1) own)) ≡ None
      good_more good =
          ap (first_bad_of given) table_more
          ∙ behind_good (number_table (take i own)) (number_option (get_or own i d) ∷ []) good
          ∙ ap (λ (x : Option ℕ). first_name (bad (get_or own i d).name.now x ∷ None ∷ [])) is

    -- and it is in its range
    pub within_more : (v : ℕ) (values : List ℕ) → is_between (get_or own i d).least (get_or own i d).most v ≡ true → AreWithin (take i own) values → AreWithin (take (i + 1) own) (values ++ v ∷ [])
    within_more v values is before =
        subst (λ (l : List NumberOption). AreInRange l (values ++ v ∷ [])) (sym table_more)
        (all_zipped_more (λ (o : NumberOption) (n : ℕ). is_between o.least o.most n ≡ true) (number_table (take i own)) values (number_option (get_or own i d)) v before is)

    -- it has no value, and is the first such
    first_is : first_bad_of given (number_table (take i own)) ≡ None → value_in given (number_option (get_or own i d)) ≡ None → first_bad_of given (number_table own) ≡ Some (get_or own i d).name.now
    first_is good none =
        ap (λ (l : List OwnOption). first_bad_of given (number_table l)) (sym (take-append-drop i own) ∙ ap (λ (l : List OwnOption). take i own ++ l) (drop_more own i d h))
        ∙ ap (first_bad_of given) (map-append number_option (take i own) (get_or own i d ∷ drop (i + 1) own))
        ∙ behind_good (number_table (take i own)) (number_table (get_or own i d ∷ drop (i + 1) own)) good
        ∙ ap (λ (x : Option ℕ). first_name (bad (get_or own i d).name.now x ∷ first_bad_of given (number_table (drop (i + 1) own)) ∷ [])) none

    -- so it is named
    pub refused : (fault : Fault) → first_bad_of given (number_table (take i own)) ≡ None → value_in given (number_option (get_or own i d)) ≡ None → fault ≡ BadOption (get_or own i d).name → NamesBad (first_bad_of given (number_table own)) fault
    refused fault good none is =
        subst (λ (f : Fault). NamesBad (first_bad_of given (number_table own)) f) (sym is) (inr (refl, sym (first_is good none)))

-- ---- what the words of a run or a replay give

module _ (name : Text) (models : Models) (words : List Text) (found : Given) (texts : List Text) (e : (option : Text) → found option ≡ given_by (app_for name models) words option) (t : texts ≡ texts_by (app_for name models) words (codes "set")) where
  -- what holds of the texts that matches give holds of those that the words give
  by_words : (Holds : Given → List Text → Type 0) → Holds found texts → Holds (given_by (app_for name models) words) (texts_by (app_for name models) words (codes "set"))
  by_words Holds h = subst (Holds (given_by (app_for name models) words)) t (subst (λ (g : Given). Holds g texts) (λ i option. e option i) h)

  -- settings and a choice that they give
  pub run_given : (s : RunSettings) (k : ℕ) (values : List ℕ) (l : Option ℕ) (p : Option ProgramChoice) (fs : List OptionPath) → GiveRun models found texts s k values l p fs → GiveRun models (given_by (app_for name models) words) (texts_by (app_for name models) words (codes "set")) s k values l p fs
  run_given s k values l p fs = by_words (λ g ts. GiveRun models g ts s k values l p fs)

  pub replay_given : (s : ReplaySettings) (k : ℕ) (values : List ℕ) (l : Option ℕ) (p : Option ProgramChoice) (fs : List OptionPath) → GiveReplay models found texts s k values l p fs → GiveReplay models (given_by (app_for name models) words) (texts_by (app_for name models) words (codes "set")) s k values l p fs
  replay_given s k values l p fs = by_words (λ g ts. GiveReplay models g ts s k values l p fs)

  -- so words of a run ask for it
  pub run_asked : AreBy (app_for name models) (codes "run") words → (r : Request) → AsksRun models found texts r → IsAsked name models words r
  run_asked are (request.Task (Run s) c) h = record { run = are; options = run_given s c.model c.values.items c.lps c.program (map path_of c.files.items) h }
  run_asked are (request.Task (Replay s) c) h = absurd h
  run_asked are (request.Help text) h = absurd h

  pub replay_asked : AreBy (app_for name models) (codes "replay") words → (r : Request) → AsksReplay models found texts r → IsAsked name models words r
  replay_asked are (request.Task (Replay s) c) h = record { replay = are; options = replay_given s c.model c.values.items c.lps c.program (map path_of c.files.items) h }
  replay_asked are (request.Task (Run s) c) h = absurd h
  replay_asked are (request.Help text) h = absurd h

  module _ (fault : Fault) where
    -- a refusal for memory refuses any words
    by_memory : fault ≡ Memory → IsRefusedByOf (line_for name models) words fault
    by_memory is = subst (IsRefusedByOf (line_for name models) words) (sym is) tt

    run_named : AreBy (app_for name models) (codes "run") words → NamesBad ((line_for name models).bad_of_run words) fault → IsRefusedByOf (line_for name models) words fault
    run_named are (inl memory) = by_memory memory
    run_named are (inr h) = requests.refused (line_for name models) words fault h.0 are h.1

    replay_named : AreBy (app_for name models) (codes "replay") words → NamesBad ((line_for name models).bad_of_replay words) fault → IsRefusedByOf (line_for name models) words fault
    replay_named are (inl memory) = by_memory memory
    replay_named are (inr h) = requests.replay_refused (line_for name models) words fault h.0 are h.1

    -- words of a run that were refused
    pub run_refused : AreBy (app_for name models) (codes "run") words → NamesBad (first_bad_of_run models found texts) fault → IsRefusedByOf (line_for name models) words fault
    run_refused are h = run_named are (by_words (λ g l. NamesBad (first_bad_of_run models g l) fault) h)

    -- and of a replay
    pub replay_refused : AreBy (app_for name models) (codes "replay") words → NamesBad (first_bad_of_replay models found texts) fault → IsRefusedByOf (line_for name models) words fault
    replay_refused are h = replay_named are (by_words (λ g l. NamesBad (first_bad_of_replay models g l) fault) h)
