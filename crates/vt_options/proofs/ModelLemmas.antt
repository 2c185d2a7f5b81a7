-- The models of a table, one after the other.
use Rattle.std.proofs.Common.{◌≡◌, ◌<◌, ◌≤◌, ◌+◌, ◌++◌, ◌∙◌, ℕ, List, [], ◌∷◌, Option, Some, None, ap, sym, refl, subst, inl, inr, length, take, drop, get_or, map, true, false, arith, append_assoc, append-nil}
use Rattle.std.specs.Prelude.{if◌then◌else◌}
use Rattle.std.specs.Str.{bytes_eq}
use Rattle.std.proofs.lemmas.Bool.{cases_lt}
use Rattle.std.proofs.lemmas.List.{get_or_past, take_more, drop_more, length-map, map-append, take-append-drop, length-take-le, get_or-map}
use Rattle.clap.specs.Words.{Text}
use Rattle.vt_key.specs.declared.fault.Fault.{Fault}
use Rattle.vt_key.specs.declared.fault.Fault.TheVariants.{Memory, NotLawful, Busy, Closed, Exhausted, TurnsSpent, BadOption, BadStep, Output}
use Rattle.vt_key.specs.promise.Faults.{fault_number, option_named}
use Rattle.vt_options.specs.declared.own.ModelOptions.{ModelOptions}
use Rattle.vt_options.specs.promise.Line.{UsedOption, once}
use Rattle.vt_options.specs.promise.Own.{AreInRange, GiveValues, first_bad_in, index_from, number_table, table_names}
use Rattle.vt_options.specs.inside.Own.{NamesBad, model_names, tables_of}
use Rattle.vt_options.specs.promise.Table.{Given, NumberOption, first_bad_of, first_name}
use Rattle.vt_options.proofs.OwnLemmas.{only}

-- ---- the index of a name

module _ (text : Text) where
  -- behind names of which it is none
  behind : (k : ℕ) (xs ys : List Text) → index_from k xs text ≡ None → index_from k (xs ++ ys) text ≡ index_from (k + length xs) ys text
  behind k [] ys none = let e : k ≡ k + length {A = Text} [] = omega arith in ap (λ n. index_from n ys text) e
  behind k (x ∷ xs) ys none =
      let e : k + 1 + length xs ≡ k + length (x ∷ xs) = omega arith in
      elim (bytes_eq x text) as (λ b. (if b then Some k else index_from (k + 1) xs text) ≡ None → (if b then Some k else index_from (k + 1) (xs ++ ys) text) ≡ index_from (k + length (x ∷ xs)) ys text) [
        | true ↦ λ is. absurd cc
        | false ↦ λ is. behind (k + 1) xs ys is ∙ ap (λ n. index_from n ys text) e
      ] none

  module _ (models : List ModelOptions) (i : ℕ) (d : ModelOptions) (h : i < length models) (none : index_from 0 (model_names (take i models)) text ≡ None) where
    -- so many names are passed
    passed : 0 + length (model_names (take i models)) ≡ i
    passed =
        let e : length (model_names (take i models)) ≡ i = length-map (take i models) (λ m. m.name.now) ∙ length-take-le i models (omega (arith, h)) in
        omega (arith, e)

    all : model_names models ≡ model_names (take i models) ++ (get_or models i d).name.now ∷ model_names (drop (i + 1) models)
    all =
        ap model_names (sym (take-append-drop i models) ∙ ap (λ (l : List ModelOptions). take i models ++ l) (drop_more models i d h))
        ∙ map-append (λ m. m.name.now) (take i models) (get_or models i d ∷ drop (i + 1) models)

    from_here : (rest : List Text) (b : _) → bytes_eq (get_or models i d).name.now text ≡ b → index_from 0 (model_names (take i models) ++ (get_or models i d).name.now ∷ rest) text ≡ (if b then Some i else index_from (i + 1) rest text)
    from_here rest b is =
        behind 0 (model_names (take i models)) ((get_or models i d).name.now ∷ rest) none
        ∙ ap (λ n. index_from n ((get_or models i d).name.now ∷ rest) text) passed
        ∙ ap (λ b. if b then Some i else index_from (i + 1) rest text) is

    -- it is the name of this model
    pub index_here : bytes_eq (get_or models i d).name.now text ≡ true → index_from 0 (model_names models) text ≡ Some i
    index_here is = ap (λ names. index_from 0 names text) all ∙ from_here (model_names (drop (i + 1) models)) true is

    -- it isn't
    pub index_later : bytes_eq (get_or models i d).name.now text ≡ false → index_from 0 (model_names (take (i + 1) models)) text ≡ None
    index_later is =
        ap (λ l. index_from 0 (model_names l) text) (take_more models i d h)
        ∙ ap (λ names. index_from 0 names text) (map-append (λ m. m.name.now) (take i models) (get_or models i d ∷ []))
        ∙ from_here [] false is

-- ---- the options of all models

names_behind : (xs ys : List (List NumberOption)) → table_names (xs ++ ys) ≡ table_names xs ++ table_names ys
names_behind [] ys = refl
names_behind (x ∷ xs) ys = ap (λ l. map (λ (o : NumberOption). o.name) x ++ l) (names_behind xs ys) ∙ sym (append_assoc (map (λ (o : NumberOption). o.name) x) (table_names xs) (table_names ys))

bad_behind : (given : Given) (xs ys : List (List NumberOption)) → first_bad_in given xs ≡ None → first_bad_in given (xs ++ ys) ≡ first_bad_in given ys
bad_behind given [] ys good = refl
bad_behind given (x ∷ xs) ys good =
    elim (first_bad_of given x) as (λ b. first_name (b ∷ first_bad_in given xs ∷ []) ≡ None → first_name (b ∷ first_bad_in given (xs ++ ys) ∷ []) ≡ first_bad_in given ys) [
      | None ↦ λ g. only (first_bad_in given (xs ++ ys)) ∙ bad_behind given xs ys (sym (only (first_bad_in given xs)) ∙ g)
      | Some name ↦ λ g. absurd cc
    ] good

-- a bad option has a name
names_one : (fault : Fault) → fault_number fault ≡ 7 → option_named fault ≡ None → ⊥
names_one Memory seven none = absurd (omega arith)
names_one NotLawful seven none = absurd (omega arith)
names_one Busy seven none = absurd (omega arith)
names_one Closed seven none = absurd (omega arith)
names_one Exhausted seven none = absurd (omega arith)
names_one TurnsSpent seven none = absurd (omega arith)
names_one (BadOption name) seven none = absurd cc
names_one (BadStep line) seven none = absurd (omega arith)
names_one Output seven none = absurd (omega arith)

module _ (models : List ModelOptions) (i : ℕ) (d : ModelOptions) (h : i < length models) where
  abbrev table : List NumberOption
  table = number_table (get_or models i d).options.now

  tables_more : tables_of (take (i + 1) models) ≡ tables_of (take i models) ++ table ∷ []
  tables_more = ap tables_of (take_more models i d h) ∙ map-append (λ m. number_table m.options.now) (take i models) (get_or models i d ∷ [])

  tables_all : tables_of models ≡ tables_of (take i models) ++ table ∷ tables_of (drop (i + 1) models)
  tables_all =
      ap tables_of (sym (take-append-drop i models) ∙ ap (λ (l : List ModelOptions). take i models ++ l) (drop_more models i d h))
      ∙ map-append (λ m. number_table m.options.now) (take i models) (get_or models i d ∷ drop (i + 1) models)

  -- the names of one model's options more
  names_more : table_names (tables_of (take (i + 1) models)) ≡ table_names (tables_of (take i models)) ++ map (λ o. o.name) table
  names_more = ap table_names tables_more ∙ names_behind (tables_of (take i models)) (table ∷ []) ∙ ap (λ l. table_names (tables_of (take i models)) ++ l) (append-nil (map (λ (o : NumberOption). o.name) table))

  -- and they are added to a list
  pub added_more : (before list new : List UsedOption) → list ≡ before ++ map once (table_names (tables_of (take i models))) → new ≡ list ++ map once (map (λ o. o.name) table) → new ≡ before ++ map once (table_names (tables_of (take (i + 1) models)))
  added_more before list new so_far added =
      added ∙ ap (λ l. l ++ map once (map (λ (o : NumberOption). o.name) table)) so_far
      ∙ append_assoc before (map once (table_names (tables_of (take i models)))) (map once (map (λ (o : NumberOption). o.name) table))
      ∙ ap (λ l. before ++ l) (sym (map-append once (table_names (tables_of (take i models))) (map (λ (o : NumberOption). o.name) table)) ∙ ap (map once) (sym names_more))

  module _ (given : Given) (good : first_bad_in given (tables_of (take i models)) ≡ None) where
    -- its options have values
    pub good_more : first_bad_of given table ≡ None → first_bad_in given (tables_of (take (i + 1) models)) ≡ None
    good_more is = ap (first_bad_in given) tables_more ∙ bad_behind given (tables_of (take i models)) (table ∷ []) good ∙ ap (λ b. first_name (b ∷ None ∷ [])) is

    -- one of them has none, and is the first such
    pub first_is : (name : Text) → first_bad_of given table ≡ Some name → first_bad_in given (tables_of models) ≡ Some name
    first_is name is =
        ap (first_bad_in given) tables_all ∙ bad_behind given (tables_of (take i models)) (table ∷ tables_of (drop (i + 1) models)) good
        ∙ ap (λ b. first_name (b ∷ first_bad_in given (tables_of (drop (i + 1) models)) ∷ [])) is

    module _ (fault : Fault) where
      by_option : (bad : Option Text) → first_bad_of given table ≡ bad → fault_number fault ≡ 7 → option_named fault ≡ bad → option_named fault ≡ first_bad_in given (tables_of models)
      by_option None is seven named = absurd (names_one fault seven named)
      by_option (Some name) is seven named = named ∙ sym (first_is name is)

      -- so it is named
      pub refused : NamesBad (first_bad_of given table) fault → NamesBad (first_bad_in given (tables_of models)) fault
      refused (inl memory) = inl memory
      refused (inr h) = inr (h.0, by_option (first_bad_of given table) refl h.0 h.1)

  module _ (k : ℕ) (same : i ≡ k) where
    -- it is the table of this index
    table_is : table ≡ get_or (tables_of models) k []
    table_is = sym (get_or-map (λ m. number_table m.options.now) models i d [] h) ∙ ap (λ n. get_or (tables_of models) n []) same

    pub given_here : (given : Given) (values : List ℕ) → GiveValues given table values → GiveValues given (get_or (tables_of models) k []) values
    given_here given values = subst (λ (t : List NumberOption). GiveValues given t values) table_is

    pub within_here : (values : List ℕ) → AreInRange table values → AreInRange (get_or (tables_of models) k []) values
    within_here values = subst (λ (t : List NumberOption). AreInRange t values) table_is

-- ---- once all models were read

-- what holds of the wanted model's table, if there is one, and of none, holds of what stands at its index
pub of_wanted : (Q : List NumberOption → List ℕ → Type 0) (models : List ModelOptions) (index wanted : ℕ) (values : List ℕ) → length models ≤ index → Q [] []
    → (index ≤ wanted → values ≡ []) → (wanted < index → Q (get_or (tables_of models) wanted []) values) → Q (get_or (tables_of models) wanted []) values
of_wanted Q models index wanted values all none before there =
    elim (cases_lt wanted index) [
      | inl less ↦ there less
      | inr past ↦
          let count : length (tables_of models) ≡ length models = length-map models (λ m. number_table m.options.now) in
          let no_table : get_or (tables_of models) wanted [] ≡ [] = get_or_past (tables_of models) wanted [] (omega (arith, count, all, past)) in
          subst (λ (table : List NumberOption). Q table values) (sym no_table) (subst (Q []) (sym (before past)) none)
    ]
