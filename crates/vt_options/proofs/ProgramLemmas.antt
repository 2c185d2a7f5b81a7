-- The texts of `set`, one after the other.
use Rattle.std.proofs.Common.{◌≡◌, ◌<◌, ◌+◌, ◌++◌, ◌∙◌, ℕ, List, [], ◌∷◌, Option, Some, None, ap, ap₂, sym, refl, codes, length, take, drop, get_or, map}
use Rattle.std.proofs.lemmas.List.{take_more, drop_more, map-append, take-append-drop}
use Rattle.std.specs.Borrow.{Bor}
use Rattle.clap.specs.Words.{Text}
use Rattle.vt_options.specs.declared.programs.Assignment.{Assignment}
use Rattle.vt_options.specs.promise.Table.{bad, first_name}
use Rattle.vt_options.specs.promise.Programs.{SetNumbers, assignment_said, bad_sets, pair_of}
use Rattle.vt_options.proofs.OwnLemmas.{only}

abbrev pub now_of : Bor Text → Text
now_of text = text.now

-- behind texts that set numbers the first bad one is that of the rest
behind_good : (xs ys : List Text) → bad_sets xs ≡ None → bad_sets (xs ++ ys) ≡ bad_sets ys
behind_good [] ys good = refl
behind_good (x ∷ xs) ys good =
    elim (bad (codes "set") (assignment_said x)) as (λ b. first_name (b ∷ bad_sets xs ∷ []) ≡ None → first_name (b ∷ bad_sets (xs ++ ys) ∷ []) ≡ bad_sets ys) [
      | None ↦ λ g. only (bad_sets (xs ++ ys)) ∙ behind_good xs ys (sym (only (bad_sets xs)) ∙ g)
      | Some name ↦ λ g. absurd cc
    ] good

module _ (texts : List (Bor Text)) (i : ℕ) (d : Bor Text) (h : i < length texts) where
  -- one text more
  texts_more : map now_of (take (i + 1) texts) ≡ map now_of (take i texts) ++ (get_or texts i d).now ∷ []
  texts_more = ap (map now_of) (take_more texts i d h) ∙ map-append now_of (take i texts) (get_or texts i d ∷ [])

  -- it sets this number
  pub sets_more : (a : Assignment) (sets : List Assignment) → assignment_said (get_or texts i d).now ≡ Some (pair_of a) → SetNumbers (map now_of (take i texts)) sets → SetNumbers (map now_of (take (i + 1) texts)) (sets ++ a ∷ [])
  sets_more a sets is before =
      ap (map assignment_said) texts_more
      ∙ map-append assignment_said (map now_of (take i texts)) ((get_or texts i d).now ∷ [])
      ∙ ap₂ (λ (l : List (Option (Text × ℕ))) (o : Option (Text × ℕ)). l ++ o ∷ []) before is
      ∙ sym (map-append (λ (b : Assignment). Some (pair_of b)) sets (a ∷ []))

  module _ (good : bad_sets (map now_of (take i texts)) ≡ None) where
    -- so none is bad so far
    pub good_more : (a : Assignment) → assignment_said (get_or texts i d).now ≡ Some (pair_of a) → bad_sets (map now_of (take (i + 1) texts)) ≡ None
    good_more a is =
        ap bad_sets texts_more
        ∙ behind_good (map now_of (take i texts)) ((get_or texts i d).now ∷ []) good
        ∙ ap (λ (o : Option (Text × ℕ)). first_name (bad (codes "set") o ∷ None ∷ [])) is

    -- it sets nothing, so `set` is bad
    pub bad_here : assignment_said (get_or texts i d).now ≡ None → bad_sets (map now_of texts) ≡ Some (codes "set")
    bad_here none =
        ap (λ (l : List (Bor Text)). bad_sets (map now_of l)) (sym (take-append-drop i texts) ∙ ap (λ (l : List (Bor Text)). take i texts ++ l) (drop_more texts i d h))
        ∙ ap bad_sets (map-append now_of (take i texts) (get_or texts i d ∷ drop (i + 1) texts))
        ∙ behind_good (map now_of (take i texts)) (map now_of (get_or texts i d ∷ drop (i + 1) texts)) good
        ∙ ap (λ (o : Option (Text × ℕ)). first_name (bad (codes "set") o ∷ bad_sets (map now_of (drop (i + 1) texts)) ∷ [])) none
