-- How the fields of a pool go together after a step at one process.
use Rattle.std.proofs.Common.{◌≡◌, ◌∙◌, ℕ, Bool, zero, suc, ◌+◌, ◌≤◌, List, [], ◌∷◌, ◌++◌, length, sym, ap, subst, arith, Some, None, slice_get, slice_set}
use Rattle.std.specs.List.{last_or, AllByRecursion}
use Rattle.std.proofs.lemmas.List.Elements.{All-append}
use Rattle.vt_key.specs.promise.Times.{Time, TimeAtMost}
use Rattle.vt_key.specs.promise.Order.{rank_before}
use Rattle.vt_key.specs.promise.Queues.{insert_letter, without_first, letter_rank, has_rank}
use Rattle.vt_key.specs.declared.limits.TheConstants.{MAX_COUNT}
use Rattle.vt_key.specs.declared.order.Rank.{Rank}
use Rattle.vt_key.specs.declared.letter.Letter.{Letter}
use Rattle.vt_key.specs.declared.letter.Sign.TheVariants.{Plus, Minus}
use Rattle.vt_key.proofs.ListLemmas.{every-weaker, every-insert_ordered, every-without_first}
use Rattle.vt_stream.specs.inside.Words.{Stream}
use Rattle.vt_model.specs.declared.settings.Config.{Config}
use Rattle.vt_model.specs.inside.Process.{IsProcessStream}
use Rattle.vt_model.specs.promise.Settings.{end_of}
use Rattle.vt_model.specs.promise.Simulation.{Triple}
use Rattle.vt_past.specs.declared.event.PastEvent.{PastEvent}
use Rattle.vt_lp.specs.inside.Held.{AllWithinRun, IsWithinRun}
use Rattle.vt_lp.proofs.UndoLemmas.{ready-within}
use Rattle.vt_outbox.specs.inside.Outbox.{HeldOutbox}
use Rattle.vt_kernel.proofs.DeliveryLemmas.{without-all}
use Rattle.vt_key.specs.declared.order.Stamp.{Stamp}
use Rattle.vt_pool.specs.inside.View.{Placed, Stock, past_at, number_at}
use Rattle.vt_pool.specs.inside.Steps.{undone_in}
use Rattle.vt_pool.specs.inside.Inside.{AreOwnStreams, IsWorkersLetter, IsWorkersEvent, IsHeard, placed_rank, IsPoolInside}
use Rattle.vt_pool.proofs.InsideLemmas.{last-there, every-last_there, every-left_there, undone-inside, message-inside, anti_message-inside, cancelled-inside}
use Rattle.vt_pool.proofs.KeptLemmas.{nodes-less}

module _ (config : Config) (w : ℕ) where
  -- the stream at an index is its process's
  pub streams-get : (base i : ℕ) (streams : List Stream) (stream : Stream) → AreOwnStreams config w base streams → slice_get streams i ≡ Some stream → IsProcessStream config.seed (number_at config w (base + i)) stream
  streams-get base i [] stream own at = absurd (let k : None ≡ Some stream = at in cc)
  streams-get base zero (s ∷ ss) stream own at =
      let k : Some s ≡ Some stream = at in
      let same : s ≡ stream = cc in
      let here : base ≡ base + 0 = omega arith in
      subst (λ n. IsProcessStream config.seed (number_at config w n) stream) here (subst (IsProcessStream config.seed (number_at config w base)) same own.0)
  streams-get base (suc i) (s ∷ ss) stream own at =
      let here : (base + 1) + i ≡ base + suc i = omega arith in
      subst (λ n. IsProcessStream config.seed (number_at config w n) stream) here (streams-get (base + 1) i ss stream own.1 at)

  -- and so is another one there
  streams-put : (base i : ℕ) (streams : List Stream) (stream : Stream) → AreOwnStreams config w base streams → IsProcessStream config.seed (number_at config w (base + i)) stream → AreOwnStreams config w base (slice_set streams i stream)
  streams-put base i [] stream own is = tt
  streams-put base zero (s ∷ ss) stream own is =
      let here : base + 0 ≡ base = omega arith in
      (subst (λ n. IsProcessStream config.seed (number_at config w n) stream) here is, own.1)
  streams-put base (suc i) (s ∷ ss) stream own is =
      let here : base + suc i ≡ (base + 1) + i = omega arith in
      (own.0, streams-put (base + 1) i ss stream own.1 (subst (λ n. IsProcessStream config.seed (number_at config w n) stream) here is))

  -- a stream that moved is still its process's
  pub streams-moved : (i : ℕ) (streams : List Stream) (before after : Stream) → AreOwnStreams config w 0 streams → slice_get streams i ≡ Some before → after.key ≡ before.key → after.process ≡ before.process
      → AreOwnStreams config w 0 (slice_set streams i after)
  streams-moved i streams before after own at key process =
      let was = streams-get 0 i streams before own at in
      streams-put 0 i streams after own (record { key = key ∙ was.key; process = process ∙ was.process })

module _ {S P K : Type 0} {config : Config} {w : ℕ} {stock : Stock S P K} {streams : List Stream} {outbox : HeldOutbox P} {serial : ℕ} {reached : Time} {heard : List ℕ} {kept : ℕ}
    (h : IsPoolInside config w stock streams outbox serial reached heard kept) where
  -- after Undo
  pub pool-undone : (i : ℕ) (now : Triple S) (event : PastEvent P K) (before after : Stream) (left : ℕ) (letters : HeldOutbox P) → last_or None (past_at i stock.past) ≡ Some event → now.number ≤ MAX_COUNT
      → slice_get streams i ≡ Some before → after.key ≡ before.key → after.process ≡ before.process
      → letters ≡ record outbox { letters = outbox.letters ++ event.undo_entry.anti_messages } → kept ≤ left + (1 + length event.undo_entry.anti_messages)
      → IsPoolInside config w (undone_in i event now stock) (slice_set streams i after) letters serial reached heard left
  pool-undone i now event before after left letters last few at key process sent less =
      let t = last-there i event stock.past last in
      let mine = every-last_there i event stock.past t (IsWorkersEvent config w) h.inside.own_past in
      let by_rank = λ (a b : Letter P). rank_before (letter_rank a) (letter_rank b) in
      let enough = h.enough in
      let nodes = nodes-less i event stock.past last in
      let ready = ready-within config.lps (end_of config) event.undo_entry.anti_messages mine.own.ready in
      record {
        known = h.known;
        inside = undone-inside h.inside i now event h.known last few;
        own_streams = streams-moved config w i streams before after h.own_streams at key process;
        reached_all = every-left_there i event stock.past t (λ (e : Placed P K). TimeAtMost (placed_rank e).key.time reached) h.reached_all;
        heard_each = h.heard_each;
        heard_pending = every-insert_ordered by_rank (λ (l : Letter P). IsHeard heard (letter_rank l).stamp) event.letter stock.pending
            (every-last_there i event stock.past t (λ (e : Placed P K). IsHeard heard (placed_rank e).stamp) h.heard_past) h.heard_pending;
        heard_past = every-left_there i event stock.past t (λ (e : Placed P K). IsHeard heard (placed_rank e).stamp) h.heard_past;
        enough = omega (arith, enough, nodes, less);
        sendable = subst (λ (o : HeldOutbox P). AllWithinRun config o.letters) (sym sent) (All-append (IsWithinRun config.lps (end_of config)) outbox.letters event.undo_entry.anti_messages h.sendable ready);
        by_worker = ap (λ (o : HeldOutbox P). o.config) sent ∙ h.by_worker;
        few_made = h.few_made;
      }

  -- after a message came
  pub pool-message : (letter : Letter P) → IsWorkersLetter config w Plus letter → AllByRecursion (λ (l : Letter P). (letter_rank letter).stamp ≡ (letter_rank l).stamp → ⊥) stock.pending
      → AllByRecursion (λ (e : Placed P K). (letter_rank letter).stamp ≡ (placed_rank e).stamp → ⊥) stock.past → IsHeard heard (letter_rank letter).stamp
      → IsPoolInside config w (record stock { pending = insert_letter letter stock.pending }) streams outbox serial reached heard kept
  pool-message letter mine other other_past heard_it = record {
    known = h.known;
    inside = message-inside h.inside letter mine other other_past;
    own_streams = h.own_streams;
    reached_all = h.reached_all;
    heard_each = h.heard_each;
    heard_pending = every-insert_ordered (λ (a b : Letter P). rank_before (letter_rank a) (letter_rank b)) (λ (l : Letter P). IsHeard heard (letter_rank l).stamp) letter stock.pending heard_it h.heard_pending;
    heard_past = h.heard_past;
    enough = h.enough;
    sendable = h.sendable;
    by_worker = h.by_worker;
    few_made = h.few_made;
  }

  -- after an anti-message came
  pub pool-anti_message : (letter : Letter P) → IsWorkersLetter config w Minus letter → AllByRecursion (λ (l : Letter P). (letter_rank letter).stamp ≡ (letter_rank l).stamp → ⊥) stock.waiting
      → IsPoolInside config w (record stock { waiting = insert_letter letter stock.waiting }) streams outbox serial reached heard kept
  pool-anti_message letter mine other = record {
    known = h.known;
    inside = anti_message-inside h.inside letter mine other;
    own_streams = h.own_streams;
    reached_all = h.reached_all;
    heard_each = h.heard_each;
    heard_pending = h.heard_pending;
    heard_past = h.heard_past;
    enough = h.enough;
    sendable = h.sendable;
    by_worker = h.by_worker;
    few_made = h.few_made;
  }

  -- after a pending message was taken out
  pub pool-taken : (rank : Rank) → IsPoolInside config w (record stock { pending = without_first (has_rank rank) stock.pending }) streams outbox serial reached heard kept
  pool-taken rank =
      let i = h.inside in
      let less = cancelled-inside i rank in
      record {
        known = h.known;
        inside = record {
          all_there = i.all_there;
          few_sends = i.few_sends;
          own_pending = less.own_pending;
          own_waiting = i.own_waiting;
          own_past = i.own_past;
          pending_rises = less.pending_rises;
          waiting_rises = i.waiting_rises;
          pasts_rise = i.pasts_rise;
          pending_stamps = less.pending_stamps;
          waiting_stamps = i.waiting_stamps;
          past_stamps = i.past_stamps;
          apart = less.apart;
        };
        own_streams = h.own_streams;
        reached_all = h.reached_all;
        heard_each = h.heard_each;
        heard_pending = every-without_first (λ (l : Letter P). IsHeard heard (letter_rank l).stamp) (has_rank rank) stock.pending h.heard_pending;
        heard_past = h.heard_past;
        enough = h.enough;
        sendable = h.sendable;
        by_worker = h.by_worker;
        few_made = h.few_made;
      }

  -- after a waiting anti-message was taken out
  pub pool-waiting_taken : (rank : Rank) (left : ℕ) → kept ≤ left → IsPoolInside config w (record stock { waiting = without_first (has_rank rank) stock.waiting }) streams outbox serial reached heard left
  pool-waiting_taken rank left more =
      let i = h.inside in
      let less = cancelled-inside i rank in
      let enough = h.enough in
      record {
        known = h.known;
        inside = record {
          all_there = i.all_there;
          few_sends = i.few_sends;
          own_pending = i.own_pending;
          own_waiting = less.own_waiting;
          own_past = i.own_past;
          pending_rises = i.pending_rises;
          waiting_rises = less.waiting_rises;
          pasts_rise = i.pasts_rise;
          pending_stamps = i.pending_stamps;
          waiting_stamps = less.waiting_stamps;
          past_stamps = i.past_stamps;
          apart = i.apart;
        };
        own_streams = h.own_streams;
        reached_all = h.reached_all;
        heard_each = h.heard_each;
        heard_pending = h.heard_pending;
        heard_past = h.heard_past;
        enough = omega (arith, enough, more);
        sendable = h.sendable;
        by_worker = h.by_worker;
        few_made = h.few_made;
      }

  -- after a letter of the outbox was taken out
  pub pool-left : (test : Letter P → Bool) (letters : HeldOutbox P) → letters ≡ record outbox { letters = without_first test outbox.letters } → IsPoolInside config w stock streams letters serial reached heard kept
  pool-left test letters left = subst (λ (o : HeldOutbox P). IsPoolInside config w stock streams o serial reached heard kept) (sym left) (record {
    known = h.known;
    inside = h.inside;
    own_streams = h.own_streams;
    reached_all = h.reached_all;
    heard_each = h.heard_each;
    heard_pending = h.heard_pending;
    heard_past = h.heard_past;
    enough = h.enough;
    sendable = without-all (IsWithinRun config.lps (end_of config)) test outbox.letters h.sendable;
    by_worker = h.by_worker;
    few_made = h.few_made;
  })

  -- after a serial was noted
  pub pool-heard : (more : List ℕ) → length more ≡ length heard → ((stamp : Stamp) → IsHeard heard stamp → IsHeard more stamp) → IsPoolInside config w stock streams outbox serial reached more kept
  pool-heard more long still = record {
    known = h.known;
    inside = h.inside;
    own_streams = h.own_streams;
    reached_all = h.reached_all;
    heard_each = long ∙ h.heard_each;
    heard_pending = every-weaker _ (λ (l : Letter P). IsHeard more (letter_rank l).stamp) stock.pending (λ l was. still (letter_rank l).stamp was) h.heard_pending;
    heard_past = every-weaker _ (λ (e : Placed P K). IsHeard more (placed_rank e).stamp) stock.past (λ e was. still (placed_rank e).stamp was) h.heard_past;
    enough = h.enough;
    sendable = h.sendable;
    by_worker = h.by_worker;
    few_made = h.few_made;
  }
