-- What a worker keeps of all its processes together, and the processes that contracts see.
use Rattle.std.specs.Prelude.{◌≡◌, ℕ, nat_eq, ◌+◌, ◌*◌, Bool, ◌&&◌, not, List, [], ◌∷◌, map, if◌then◌else◌}
use Rattle.std.specs.List.{filter, list_any}
use Rattle.vt_key.specs.promise.Lists.{IsRisingBy}
use Rattle.vt_key.specs.promise.Queues.{letter_rank}
use Rattle.vt_key.specs.declared.letter.Letter.{Letter}
use Rattle.vt_model.specs.declared.settings.Config.{Config}
use Rattle.vt_model.specs.promise.Simulation.{Triple}
use Rattle.vt_past.specs.declared.event.PastEvent.{PastEvent}
use Rattle.vt_lp.specs.inside.Held.{HeldProcess}

-- a past event, and the index of its process among the worker's
pub record Placed (P K : Type 0) : Type 0 where
  pub index : ℕ
  pub event : PastEvent P K

-- what is kept of all processes together: where each stands, the past events in the order of their execution, and the pending
-- messages and the waiting anti-messages in rising rank
pub record Stock (S P K : Type 0) : Type 0 where
  pub triples : List (Triple S)
  pub past : List (Placed P K)
  pub pending : List (Letter P)
  pub waiting : List (Letter P)

module _ {P K : Type 0} where
  -- whether an event is of the process at an index
  abbrev pub is_at : ℕ → Placed P K → Bool
  is_at i e = nat_eq e.index i

  -- the past events of the process at an index, in their order
  abbrev pub past_at : ℕ → List (Placed P K) → List (PastEvent P K)
  past_at i es = map (λ (e : Placed P K). e.event) (filter (is_at i) es)

  -- the events without the last one of the process at an index; all of them where it has none
  abbrev pub without_last_at : ℕ → List (Placed P K) → List (Placed P K)
  without_last_at i [] = []
  without_last_at i (e ∷ es) = if is_at i e && not (list_any (is_at i) es) then es else e ∷ without_last_at i es

module _ {P : Type 0} where
  -- whether a letter is for process p
  abbrev pub is_to : ℕ → Letter P → Bool
  is_to p letter = nat_eq letter.event.dest p

  -- the letters for process p
  abbrev pub letters_to : ℕ → List (Letter P) → List (Letter P)
  letters_to p letters = filter (is_to p) letters

  -- no two of these letters have one stamp
  abbrev pub HaveOwnStamps : List (Letter P) → Type 0
  HaveOwnStamps = IsRisingBy (λ a b. (letter_rank a).stamp ≡ (letter_rank b).stamp → ⊥)

-- the number of the process at an index of worker w
abbrev pub number_at : Config → ℕ → ℕ → ℕ
number_at config w i = i * config.workers + w

module _ {S P K : Type 0} (config : Config) (w : ℕ) where
  -- the process at an index, which stands there
  abbrev pub process_in : ℕ → Triple S → Stock S P K → HeldProcess S P K
  process_in i triple stock = record {
    lp = number_at config w i;
    config = config;
    triple = triple;
    past = past_at i stock.past;
    pending = letters_to (number_at config w i) stock.pending;
    waiting = letters_to (number_at config w i) stock.waiting;
  }

  -- the processes from an index on, which stand there
  abbrev pub processes_from : ℕ → List (Triple S) → Stock S P K → List (HeldProcess S P K)
  processes_from base [] stock = []
  processes_from base (triple ∷ triples) stock = process_in base triple stock ∷ processes_from (base + 1) triples stock

  -- all of the worker's processes
  abbrev pub processes_in : Stock S P K → List (HeldProcess S P K)
  processes_in stock = processes_from 0 stock.triples stock
