-- What is drawn, as functions of the words.
use Rattle.std.specs.Prelude.{ℕ, zero, suc, ◌+◌, ◌-◌, min, Bool, List, [], ◌∷◌, nat_lt, if◌then◌else◌}
use Rattle.std.specs.List.{sum}
use Rattle.vt_stream.specs.promise.Drawn.{scaled}

-- whether something happens by this word that does so p times out of q
abbrev pub happens : ℕ → ℕ → ℕ → Bool
happens word p q = nat_lt (scaled word q) p

-- the index of the weight to which a point belongs, where they lie one behind the other
abbrev pub chosen : List ℕ → ℕ → ℕ
chosen [] point = 0
chosen (w ∷ ws) point = if nat_lt point w then 0 else suc (chosen ws (point - w))

-- the index of the weight that a word draws
abbrev pub weight_drawn : List ℕ → ℕ → ℕ
weight_drawn ws word = chosen ws (scaled word (sum ws))

-- the index of the first of so many words, from an index on, by which it happens; the index behind them where there is none
abbrev pub first_hit : (ℕ → ℕ) → ℕ → ℕ → ℕ → ℕ → ℕ
first_hit words p q at zero = at
first_hit words p q at (suc left) = if happens (words at) p q then at else first_hit words p q (suc at) left

-- how often it fails before it happens, in at most so many tries
abbrev pub failures : (ℕ → ℕ) → ℕ → ℕ → ℕ → ℕ
failures words p q limit = first_hit words p q 0 limit

-- how often it is tried
abbrev pub tries : (ℕ → ℕ) → ℕ → ℕ → ℕ → ℕ
tries words p q limit = min (failures words p q limit + 1) limit
