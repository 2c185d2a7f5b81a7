-- A text of somebody else's as a terminal is shown it.
use Rattle.std.specs.Prelude.{◌≡◌, ◌≢◌, ◌⊎◌, ℕ, ◌-◌, ◌<◌, ◌≤◌, List, [], ◌∷◌, ◌++◌, length, codes}
use Rattle.std.specs.Char.Escape.{IsEscapeDebug}
use Rattle.std.specs.Str.{chars, encode_utf8_all}
use Rattle.clap.specs.Words.{Text}
use Rattle.vt_options.specs.declared.shown.TheConstants.{SENTENCE_COLUMNS, WORD_COLUMNS}

-- what is written of a character: one that is spared as it is, and any other as `escape_debug` writes it
abbrev pub IsWrittenAs : ℕ → ℕ → List ℕ → Type 0
IsWrittenAs spared c xs = (c ≡ spared → xs ≡ c ∷ []) × (c ≢ spared → IsEscapeDebug c xs)

-- a text shows these characters in at most so many columns: what is written of each, and `..` where there is no room for one
abbrev pub IsShownIn : ℕ → ℕ → List ℕ → Text → Type 0
IsShownIn spared room [] text = text ≡ []
IsShownIn spared room (c ∷ cs) text = (xs : List ℕ) × IsWrittenAs spared c xs
    × (((room < length xs) × (text ≡ codes ".."))
    ⊎ ((length xs ≤ room) × ((rest : Text) × (text ≡ encode_utf8_all xs ++ rest) × IsShownIn spared (room - length xs) cs rest)))

-- a text shows this one in at most so many columns, with this character spared
abbrev pub IsShown : ℕ → ℕ → Text → Text → Type 0
IsShown spared room whole text = IsShownIn spared room (chars whole) text

-- a text shows a word: no character is spared but the space, which `escape_debug` writes as it is too
abbrev pub IsShownWord : Text → Text → Type 0
IsShownWord word text = IsShown 32 WORD_COLUMNS word text

-- a text shows a sentence that quotes words: single quotes (39) are spared
abbrev pub IsShownSentence : Text → Text → Type 0
IsShownSentence sentence text = IsShown 39 SENTENCE_COLUMNS sentence text
