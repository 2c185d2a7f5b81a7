-- Steps at one process: Execute, Undo, Cancel, and a letter that comes. A function to an Option gives None where the guard
-- of its step fails. A guard takes no process, but lists, ranks, stamps and letters: so contracts of code cite it as it stands.
use Rattle.std.specs.Prelude.{ℕ, ◌-◌, Bool, true, false, not, ◌||◌, List, [], ◌∷◌, ◌++◌, map, length, take, if◌then◌else◌, Option, Some, None}
use Rattle.std.specs.List.{find, list_any, last_or}
use Rattle.std.specs.Option.{option_map_or, option_and_then}
use Rattle.vt_key.specs.promise.Order.{rank_before, rank_same, key_same}
use Rattle.vt_key.specs.promise.Queues.{has_stamp, has_rank, insert_letter, without_first}
use Rattle.vt_key.specs.declared.order.Rank.{Rank}
use Rattle.vt_key.specs.declared.order.Stamp.{Stamp}
use Rattle.vt_key.specs.declared.letter.Letter.{Letter}
use Rattle.vt_key.specs.declared.letter.Sign.{Sign}
use Rattle.vt_key.specs.declared.letter.Sign.TheVariants.{Plus, Minus}
use Rattle.vt_model.specs.promise.Simulation.{Simulation}
use Rattle.vt_steps.specs.promise.Letters.{unstamped, stamped, signed}
use Rattle.vt_steps.specs.promise.World.{Entry, LogicalProcess, entry_rank, triple_after}

-- what a step does at a process: the process after it, the letters that go to the back of the worker's outbox, and how many
-- serials are taken
pub record ProcessEffect (P : Type 0) : Type 0 where
  pub process : LogicalProcess P
  pub letters : List (Letter P)
  pub serials : ℕ

-- of things with a rank each: one of this rank may follow the last one, or none at all, if its rank is greater
abbrev pub may_follow : {X : Type 0} → (X → Rank) → Option X → Rank → Bool
may_follow rank_of last rank = option_map_or (λ x. rank_before (rank_of x) rank) last true

module _ {P : Type 0} where
  -- ---- Execute

  -- the least pending event becomes the last past entry; what it sends takes the next serials
  unfoldable pub effect_of_execute : {S : Type 0} → Simulation S P → ℕ → ℕ → ℕ → LogicalProcess P → Letter P → List (Letter P) → ProcessEffect P
  effect_of_execute sim p w serial process least rest =
      let fired = sim.fire p (triple_after sim p (process.done ++ process.past)) (unstamped least.event) in
      let sent = stamped w serial fired.sends in
      record {
        process = record process { past = process.past ++ record { event = least.event; sent = sent } ∷ []; pending = rest };
        letters = map (signed Plus) sent;
        serials = length sent;
      }

  -- the guard: there is a pending letter, and the least has a greater rank than the last past event, if there is one
  abbrev pub execute_least : {S : Type 0} → Simulation S P → ℕ → ℕ → ℕ → LogicalProcess P → List (Letter P) → Option (ProcessEffect P)
  execute_least sim p w serial process [] = None
  execute_least sim p w serial process (least ∷ rest) =
      if may_follow entry_rank (last_or None process.past) least.event.rank then Some (effect_of_execute sim p w serial process least rest)
      else None

  -- Execute at process p of worker w, whose next serial is given
  abbrev pub execute_process : {S : Type 0} → Simulation S P → ℕ → ℕ → ℕ → LogicalProcess P → Option (ProcessEffect P)
  execute_process sim p w serial process = execute_least sim p w serial process process.pending

  -- ---- Undo

  -- an event of this rank has to be undone: a pending rank is less, or a waiting one is at most this one. So an undo makes nothing
  -- earlier than what is unprocessed already, and global virtual time bounds all undos
  abbrev pub must_undo : List (Letter P) → List (Letter P) → Rank → Bool
  must_undo pending waiting rank =
      list_any (λ letter. rank_before letter.event.rank rank) pending
      || list_any (λ letter. not (rank_before rank letter.event.rank)) waiting

  -- the last past entry is dropped, its event is pending again, and the anti-messages of what it sent go out
  unfoldable pub effect_of_undo : LogicalProcess P → Entry P → ProcessEffect P
  effect_of_undo process last =
      record {
        process = record process { past = take (length process.past - 1) process.past; pending = insert_letter (signed Plus last.event) process.pending };
        letters = map (signed Minus) last.sent;
        serials = 0;
      }

  -- Undo at a process. The guard: there is a last past entry, and its event has to be undone
  abbrev pub undo_process : LogicalProcess P → Option (ProcessEffect P)
  undo_process process = option_and_then (λ last. if must_undo process.pending process.waiting last.event.rank then Some (effect_of_undo process last) else None) (last_or None process.past)

  -- ---- Cancel

  -- both letters are there, and their keys are equal
  abbrev pub are_opposite : Option (Letter P) → Option (Letter P) → Bool
  are_opposite (Some minus) (Some plus) = key_same minus.event.rank.key plus.event.rank.key
  are_opposite _ _ = false

  -- the first waiting and the first pending letter of this stamp annihilate each other
  abbrev pub can_annihilate : Stamp → List (Letter P) → List (Letter P) → Bool
  can_annihilate stamp pending waiting = are_opposite (find (has_stamp stamp) waiting) (find (has_stamp stamp) pending)

  -- Cancel at a process of this stamp
  unfoldable pub cancel_process : Stamp → LogicalProcess P → Option (ProcessEffect P)
  cancel_process stamp process =
      if can_annihilate stamp process.pending process.waiting
      then Some (record {
        process = record process { pending = without_first (has_stamp stamp) process.pending; waiting = without_first (has_stamp stamp) process.waiting };
        letters = [];
        serials = 0;
      })
      else None

  -- ---- a letter that comes, by Home or by Accept

  -- a letter is held: a message of its rank is pending or past, or an anti-message of its rank is waiting
  abbrev pub holds : {X : Type 0} → (X → Rank) → List (Letter P) → List (Letter P) → List X → Sign → Rank → Bool
  holds rank_of pending waiting past Plus rank = list_any (has_rank rank) pending || list_any (λ x. rank_same (rank_of x) rank) past
  holds rank_of pending waiting past Minus rank = list_any (has_rank rank) waiting

  -- a message is pending from now on, an anti-message waiting
  abbrev pub with_letter : LogicalProcess P → Sign → Letter P → LogicalProcess P
  with_letter process Plus letter = record process { pending = insert_letter letter process.pending }
  with_letter process Minus letter = record process { waiting = insert_letter letter process.waiting }

  -- a letter comes to its process, which must not hold it already
  unfoldable pub accept_process : Letter P → LogicalProcess P → Option (ProcessEffect P)
  accept_process letter process =
      if holds entry_rank process.pending process.waiting process.past letter.sign letter.event.rank then None
      else Some (record { process = with_letter process letter.sign letter; letters = []; serials = 0 })
