-- The least time of letters in rising rank.
use Rattle.std.proofs.Common.{◌≡◌, ◌∙◌, ℕ, List, [], ◌∷◌, slice_get, refl, sym, arith}
use Rattle.std.specs.List.{AllByRecursion}
use Rattle.std.specs.Option.{option_map, option_map_or}
use Rattle.vt_key.specs.promise.Times.{Time, TimeAtMost, earlier}
use Rattle.vt_key.specs.inside.Queues.{IsRising}
use Rattle.vt_key.specs.declared.letter.Letter.{Letter}
use Rattle.vt_key.specs.declared.letter.Sign.{Sign}
use Rattle.vt_key.proofs.ListLemmas.{every-weaker}
use Rattle.vt_model.specs.declared.settings.Config.{Config}
use Rattle.vt_model.specs.promise.Settings.{end_of}
use Rattle.vt_steps.specs.promise.Letters.{letter_time, least_time}
use Rattle.vt_steps.proofs.TimeLemmas.{earlier_first}
use Rattle.vt_lp.proofs.RisingLemmas.{least_time-rising}
use Rattle.vt_pool.specs.inside.Inside.{IsWorkersLetter}

-- it is the first one's, where all are before the end
pub least-rising : {P : Type 0} (end : Time) (letters : List (Letter P)) → IsRising letters → AllByRecursion (λ letter. TimeAtMost (letter_time letter) end) letters
    → option_map_or (λ time. earlier time end) (option_map letter_time (slice_get letters 0)) end ≡ least_time end letters
least-rising end [] rises soon = refl
least-rising end (x ∷ xs) rises soon = earlier_first (letter_time x) end soon.0 ∙ sym (least_time-rising end x xs soon.0 rises)

-- letters for a worker's processes are
pub soon-all : {P : Type 0} (config : Config) (w : ℕ) (sign : Sign) (letters : List (Letter P)) → AllByRecursion (IsWorkersLetter config w sign) letters
    → AllByRecursion (λ letter. TimeAtMost (letter_time letter) (end_of config)) letters
soon-all config w sign letters own =
    every-weaker (IsWorkersLetter config w sign) (λ letter. TimeAtMost (letter_time letter) (end_of config)) letters (λ letter mine. let soon = mine.within.soon in omega (arith, soon)) own
