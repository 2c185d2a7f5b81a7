-- What is logged, as past events.
use Rattle.std.proofs.Common.{◌≡◌, ◌∙◌, ℕ, ◌+◌, ◌<◌, ◌≤◌, Bool, true, false, not, ◌&&◌, ◌||◌, if◌then◌else◌, List, [], ◌∷◌, map, length, refl, sym, ap, subst, arith, Option, Some, None, MatchOption}
use Rattle.std.specs.List.{filter, last_or, list_any, sum_by, AllByRecursion}
use Rattle.std.specs.Option.{option_map, option_map_or}
use Rattle.vt_key.specs.promise.Order.{rank_before}
use Rattle.vt_key.specs.declared.order.Rank.{Rank}
use Rattle.vt_key.specs.declared.letter.Sign.TheVariants.{Minus}
use Rattle.vt_key.proofs.ListLemmas.{every-filter, every-last}
use Rattle.vt_model.specs.declared.settings.Config.{Config}
use Rattle.vt_past.specs.declared.event.PastEvent.{PastEvent}
use Rattle.vt_lp.proofs.Stamping.{length-letters}
use Rattle.vt_kernel.proofs.ProcessLemmas.{index-known}
use Rattle.vt_model.specs.declared.sending.Sent.{Sent}
use Rattle.vt_logs.specs.declared.entry.Entry.{Entry}
use Rattle.vt_logs.specs.inside.Events.{Logged, is_of, events_of, last_of, without_last}
use Rattle.vt_pool.specs.inside.Logged.{placed}
use Rattle.vt_pool.specs.inside.View.{Placed, Stock, is_at, past_at, without_last_at, number_at}
use Rattle.vt_pool.specs.inside.Inside.{IsWorkersEvent, IsStockInside, nodes_of}
use Rattle.vt_pool.proofs.ViewLemmas.{number-index, number-own}
use Rattle.vt_pool.proofs.InsideLemmas.{last-there, every-last_there}
use Rattle.vt_pool.proofs.KeptLemmas.{nodes-less}

last-map : {X Y : Type 0} (f : X → Y) (o : Option X) (xs : List X) → last_or (option_map f o) (map f xs) ≡ option_map f (last_or o xs)
last-map f o [] = refl
last-map f o (x ∷ xs) = last-map f (Some x) xs

module _ {P K : Type 0} (w : ℕ) where
  placed-at : (i : ℕ) (es : List (Logged P K)) → past_at i (map (placed w) es) ≡ map (λ e. (placed w e).event) (events_of i es)
  placed-at i [] = refl
  placed-at i (e ∷ es) =
      let rest = filter (is_at i) (map (placed w) es) in
      elim (is_of i e) as (λ b. map (λ (d : Placed P K). d.event) (if b then placed w e ∷ rest else rest) ≡ map (λ (d : Logged P K). (placed w d).event) (if b then e ∷ events_of i es else events_of i es)) [
        | true ↦ ap (λ (ds : List (PastEvent P K)). (placed w e).event ∷ ds) (placed-at i es)
        | false ↦ placed-at i es
      ]

  last-placed : (i : ℕ) (es : List (Logged P K)) → last_or None (past_at i (map (placed w) es)) ≡ option_map (λ (e : Logged P K). (placed w e).event) (last_of i es)
  last-placed i es = ap (last_or None) (placed-at i es) ∙ last-map (λ (e : Logged P K). (placed w e).event) None (events_of i es)

  -- the last event of a process, in the log and among the past events
  pub last-is : (i : ℕ) (e : Logged P K) (es : List (Logged P K)) → last_of i es ≡ Some e → last_or None (past_at i (map (placed w) es)) ≡ Some (placed w e).event
  last-is i e es at = last-placed i es ∙ ap (option_map (λ (d : Logged P K). (placed w d).event)) at

  pub last-none : (i : ℕ) (es : List (Logged P K)) → last_of i es ≡ None → last_or None (past_at i (map (placed w) es)) ≡ None
  last-none i es at = last-placed i es ∙ ap (option_map (λ (d : Logged P K). (placed w d).event)) at

  any-placed : (i : ℕ) (es : List (Logged P K)) → list_any (is_at i) (map (placed w) es) ≡ list_any (is_of i) es
  any-placed i [] = refl
  any-placed i (e ∷ es) = ap (λ (b : Bool). is_of i e || b) (any-placed i es)

  -- without it
  pub without-placed : (i : ℕ) (es : List (Logged P K)) → map (placed w) (without_last i es) ≡ without_last_at i (map (placed w) es)
  without-placed i [] = refl
  without-placed i (e ∷ es) =
      elim (is_of i e && not (list_any (is_of i) es)) as (λ b. map (placed w) (if b then es else e ∷ without_last i es)
      ≡ (if b then map (placed w) es else placed w e ∷ without_last_at i (map (placed w) es))) [
        | true ↦ refl
        | false ↦ ap (λ (ds : List (Placed P K)). placed w e ∷ ds) (without-placed i es)
      ]
      ∙ sym (ap (λ (c : Bool). if is_of i e && not c then map (placed w) es else placed w e ∷ without_last_at i (map (placed w) es)) (any-placed i es))

  -- what each event has, those that are left have, and the last one has
  pub every-without_last : (Q : Logged P K → Type 0) (i : ℕ) (es : List (Logged P K)) → AllByRecursion Q es → AllByRecursion Q (without_last i es)
  every-without_last Q i [] all = tt
  every-without_last Q i (e ∷ es) all =
      elim (is_of i e && not (list_any (is_of i) es)) as (λ b. AllByRecursion Q (if b then es else e ∷ without_last i es)) [ true ↦ all.1 | false ↦ (all.0, every-without_last Q i es all.1) ]

  pub every-last_of : (Q : Logged P K → Type 0) (i : ℕ) (e : Logged P K) (es : List (Logged P K)) → AllByRecursion Q es → last_of i es ≡ Some e → Q e
  every-last_of Q i e es all at = every-last Q (events_of i es) e at (every-filter Q (is_of i) es all)

  -- how many nodes its undo takes
  pub nodes-last : (i : ℕ) (e : Logged P K) (es : List (Logged P K)) → last_of i es ≡ Some e
      → sum_by nodes_of (map (placed w) es) ≡ sum_by nodes_of (without_last_at i (map (placed w) es)) + (1 + length e.sends)
  nodes-last i e es at =
      let less = nodes-less i (placed w e).event (map (placed w) es) (last-is i e es at) in
      let count = length-letters Minus w e.entry.serial e.sends in
      omega (arith, less, count)

  -- whether the last event isn't before a rank
  abbrev pub ends_from : Rank → Option (PastEvent P K) → Bool
  ends_from rank o = option_map_or (λ (e : PastEvent P K). not (rank_before e.letter.event.rank rank)) o false

  pub ends-here : (i : ℕ) (rank : Rank) (e : Logged P K) (es : List (Logged P K)) → last_of i es ≡ Some e → not (rank_before e.entry.event.rank rank) ≡ ends_from rank (last_or None (past_at i (map (placed w) es)))
  ends-here i rank e es at = sym (ap (ends_from rank) (last-is i e es at))

  pub ends-nowhere : (i : ℕ) (rank : Rank) (es : List (Logged P K)) → last_of i es ≡ None → false ≡ ends_from rank (last_or None (past_at i (map (placed w) es)))
  ends-nowhere i rank es at = sym (ap (ends_from rank) (last-none i es at))

-- what the log tells of the last event of a process
module _ {P K : Type 0} {e : Logged P K} {o : Option (Logged P K)} (at : o ≡ Some e) where
  pub sends-of_last : {sends : List (Sent P)} → MatchOption o (sends ≡ []) (λ d. sends ≡ d.sends) → sends ≡ e.sends
  sends-of_last {sends} told = subst (λ x. MatchOption x (sends ≡ []) (λ d. sends ≡ d.sends)) at told

  pub entry-of_last : {entry : Entry P K} → Some entry ≡ option_map (λ d. d.entry) o → entry ≡ e.entry
  entry-of_last {entry} taken =
      let k : Some entry ≡ Some e.entry = taken ∙ ap (option_map (λ (d : Logged P K). d.entry)) at in
      cc

-- the process of a past event is there
pub last-within : {S P K : Type 0} {config : Config} {w : ℕ} {stock : Stock S P K} (i : ℕ) (event : PastEvent P K) → w < config.workers → IsStockInside config w stock → last_or None (past_at i stock.past) ≡ Some event
    → i < length stock.triples
last-within {config = config} {w = w} {stock = stock} i event known h last =
    let mine = every-last_there i event stock.past (last-there i event stock.past last) (IsWorkersEvent config w) h.own_past in
    let some : 1 ≤ config.workers = omega (arith, known) in
    let less = index-known config.lps config.workers w (number_at config w i) some mine.known (number-own config w known i) in
    let index = number-index config w known i in
    let all = h.all_there in
    omega (arith, less, index, all)
