-- Texts as a terminal is shown them.
use Rattle.std.proofs.Common.{◌≡◌, ◌≢◌, ℕ, ◌+◌, ◌-◌, ◌<◌, ◌≤◌, List, [], ◌∷◌, ◌++◌, length, refl, ap, sym, ◌∙◌, inl, inr, subst, arith, append_assoc, codes}
use Rattle.std.specs.Str.{encode_utf8_all}
use Rattle.std.specs.Char.{encode_utf8}
use Rattle.std.specs.Char.Escape.{IsEscapeDebug}
use Rattle.std.proofs.lemmas.List.{append-nil, length-append}
use Rattle.std.proofs.lemmas.Str.{encodes-append}
use Rattle.clap.specs.Words.{Text}
use Rattle.vt_options.specs.inside.Shown.{IsWrittenAs, IsShownIn}

-- ---- one character

-- the letters of a character so far, and those that are left of it
pub record IsPart (spared c : ℕ) (text : Text) (columns : ℕ) (left : List ℕ) (wide : ℕ) : Type 0 where
  pub done : List ℕ
  pub text_is : text ≡ encode_utf8_all done
  pub wide_is : length done + columns ≡ wide
  pub written : IsWrittenAs spared c (done ++ left)

pub begun : (spared c : ℕ) (text : Text) (columns : ℕ) (left : List ℕ) (wide : ℕ) → text ≡ [] → c ≢ spared → wide ≡ columns → IsEscapeDebug c left → IsPart spared c text columns left wide
begun spared c text columns left wide empty other same is = record { done = []; text_is = empty; wide_is = omega (arith, same); written = (λ e. absurd (other e), λ _. is) }

pub letter_more : (spared c : ℕ) (text old : Text) (x columns columns' : ℕ) (left left' : List ℕ) (wide : ℕ) → IsPart spared c old columns left wide
    → text ≡ old ++ encode_utf8 x → left ≡ x ∷ left' → columns' + 1 ≡ columns → IsPart spared c text columns' left' wide
letter_more spared c text old x columns columns' left left' wide part grown first fewer = record {
  done = part.done ++ (x ∷ []);
  text_is = grown ∙ ap (λ l. l ++ encode_utf8 x) part.text_is ∙ ap (λ l. encode_utf8_all part.done ++ l) (sym (append-nil (encode_utf8 x))) ∙ sym (encodes-append part.done (x ∷ []));
  wide_is = omega (arith, length-append part.done (x ∷ []), part.wide_is, fewer);
  written = subst (λ l. IsWrittenAs spared c l) (ap (λ l. part.done ++ l) first ∙ sym (append_assoc part.done (x ∷ []) left')) part.written;
}

-- all of them
pub part_whole : (spared c : ℕ) (text : Text) (columns : ℕ) (left : List ℕ) (wide : ℕ) → IsPart spared c text columns left wide → columns ≡ 0 → left ≡ []
    → (xs : List ℕ) × IsWrittenAs spared c xs × (length xs ≡ wide) × (text ≡ encode_utf8_all xs)
part_whole spared c text columns left wide part zero none =
    (part.done, subst (λ l. IsWrittenAs spared c l) (ap (λ l. part.done ++ l) none ∙ append-nil part.done) part.written, omega (arith, part.wide_is, zero), part.text_is)

-- ---- one character more

-- what is written of a character, in so many columns
abbrev pub IsWrittenBy : ℕ → ℕ → ℕ → Text → Type 0
IsWrittenBy spared c wide letters = (xs : List ℕ) × IsWrittenAs spared c xs × (length xs ≡ wide) × (letters ≡ encode_utf8_all xs)

pub shown_more : (spared columns room wide c : ℕ) (cs left all : List ℕ) (old letters text : Text)
    → ((rest : Text) → IsShownIn spared room left rest → IsShownIn spared columns all (old ++ rest))
    → left ≡ c ∷ cs → IsWrittenBy spared c wide letters → wide ≤ room → text ≡ old ++ letters
    → (rest : Text) → IsShownIn spared (room - wide) cs rest → IsShownIn spared columns all (text ++ rest)
shown_more spared columns room wide c cs left all old letters text before first w fits grown rest shown =
    let here : IsShownIn spared room (c ∷ cs) (letters ++ rest) =
    (w.0, w.1, inr (omega (arith, w.2), (rest, ap (λ l. l ++ rest) w.3, subst (λ n. IsShownIn spared (room - n) cs rest) (sym w.2) shown))) in
    subst (λ l. IsShownIn spared columns all l) (sym (ap (λ l. l ++ rest) grown ∙ append_assoc old letters rest))
    (before (letters ++ rest) (subst (λ l. IsShownIn spared room l (letters ++ rest)) (sym first) here))

-- no room for it
pub shown_cut : (spared columns room wide c : ℕ) (cs left all : List ℕ) (old letters text : Text)
    → ((rest : Text) → IsShownIn spared room left rest → IsShownIn spared columns all (old ++ rest))
    → left ≡ c ∷ cs → IsWrittenBy spared c wide letters → room < wide → text ≡ old ++ codes ".." → IsShownIn spared columns all text
shown_cut spared columns room wide c cs left all old letters text before first w narrow grown =
    let here : IsShownIn spared room (c ∷ cs) (codes "..") = (w.0, w.1, inl (omega (arith, w.2), refl)) in
    subst (λ l. IsShownIn spared columns all l) (sym grown) (before (codes "..") (subst (λ l. IsShownIn spared room l (codes "..")) (sym first) here))

-- none is left
pub shown_all : (spared columns room : ℕ) (left all : List ℕ) (text : Text)
    → ((rest : Text) → IsShownIn spared room left rest → IsShownIn spared columns all (text ++ rest)) → left ≡ [] → IsShownIn spared columns all text
shown_all spared columns room left all text before none =
    subst (λ l. IsShownIn spared columns all l) (append-nil text) (before [] (subst (λ l. IsShownIn spared room l []) (sym none) refl))
