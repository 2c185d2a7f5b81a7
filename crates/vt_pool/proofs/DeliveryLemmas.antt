-- Messages that come straight home, or go to the outbox: the list of steps that does this, and how the fields of a pool go together then.
use Rattle.std.proofs.Common.{◌≡◌, ◌∙◌, ℕ, zero, suc, ◌%◌, ◌≤◌, Bool, true, false, if◌then◌else◌, List, [], ◌∷◌, ◌++◌, append-nil, append_assoc, map, ◌+◌, refl, sym, ap, subst, arith, inl, inr, Some, slice_get, slice_set}
use Rattle.std.specs.List.{All, find, list_any, AllByRecursion}
use Rattle.std.proofs.lemmas.List.Elements.{All-cons, All-head, All-tail}
use Rattle.vt_key.specs.promise.Times.{Time, TimeAtMost}
use Rattle.std.proofs.Math.ListN.{length-set}
use Rattle.std.proofs.lemmas.Bool.{eqb-true}
use Rattle.vt_key.specs.promise.Order.{rank_before}
use Rattle.vt_key.specs.inside.Order.{RankBefore}
use Rattle.vt_key.specs.declared.order.Stamp.{Stamp}
use Rattle.vt_key.specs.promise.Queues.{letter_rank, insert_letter, without_first}
use Rattle.vt_key.specs.declared.letter.Letter.{Letter}
use Rattle.vt_key.specs.declared.letter.Sign.TheVariants.{Plus}
use Rattle.vt_key.proofs.ListLemmas.{every-weaker, every-insert_ordered}
use Rattle.vt_key.proofs.RisingLemmas.{first-false, second-false}
use Rattle.vt_stream.specs.inside.Words.{Stream}
use Rattle.vt_model.specs.declared.sending.Sent.{Sent}
use Rattle.vt_model.specs.declared.settings.Config.{Config}
use Rattle.vt_model.specs.promise.Handler.{Handlers}
use Rattle.vt_model.specs.promise.Settings.{end_of}
use Rattle.vt_steps.specs.promise.Letters.{stamped, signed}
use Rattle.vt_steps.specs.promise.PartSteps.{is_for}
use Rattle.vt_steps.proofs.lists.Indices.{get-put_same}
use Rattle.vt_kernel.proofs.Written.{put-there}
use Rattle.vt_lp.specs.inside.Held.{AllWithinRun, IsWithinRun}
use Rattle.vt_pool.specs.inside.View.{Placed, Stock}
use Rattle.vt_pool.specs.inside.Steps.{received_in}
use Rattle.vt_pool.specs.inside.Inside.{IsWorkersLetter, IsHeard, ComesAfter, AreSettled, placed_rank, IsPoolInside}
use Rattle.vt_pool.specs.inside.Share.{HeldPool, PoolLeadsTo}
use Rattle.vt_pool.specs.inside.Pool.{holds_stamp, with_letter}
use Rattle.vt_pool.specs.inside.Executing.{ComesHome, AreDelivered}
use Rattle.vt_pool.proofs.InsideLemmas.{message-inside}
use Rattle.vt_pool.proofs.KeptLemmas.{now-heard, still-heard}
use Rattle.vt_pool.proofs.HoldLemmas.{not-held, new-pending, new-past}
use Rattle.vt_pool.proofs.HomeLemmas.{home-pool-leads}
use Rattle.vt_pool.proofs.ForceLemmas.{pool-nothing, pool-both}

-- ---- lists

module _ {X : Type 0} (test : X → Bool) where
  -- one that passes behind those that don't is the first
  find-behind : (xs ys : List X) (x : X) → list_any test xs ≡ false → test x ≡ true → find test (xs ++ x ∷ ys) ≡ Some x
  find-behind [] ys x none is = ap (λ (b : Bool). if b then Some x else find test ys) is
  find-behind (z ∷ zs) ys x none is =
      ap (λ (b : Bool). if b then Some z else find test (zs ++ x ∷ ys)) (first-false (test z) (list_any test zs) none) ∙ find-behind zs ys x (second-false (test z) (list_any test zs) none) is

  without-behind : (xs ys : List X) (x : X) → list_any test xs ≡ false → test x ≡ true → without_first test (xs ++ x ∷ ys) ≡ xs ++ ys
  without-behind [] ys x none is = ap (λ (b : Bool). if b then ys else x ∷ without_first test ys) is
  without-behind (z ∷ zs) ys x none is =
      ap (λ (b : Bool). if b then zs ++ x ∷ ys else z ∷ without_first test (zs ++ x ∷ ys)) (first-false (test z) (list_any test zs) none)
      ∙ ap (λ (rest : List X). z ∷ rest) (without-behind zs ys x (second-false (test z) (list_any test zs) none) is)

-- a write over another
put-twice : {X : Type 0} (xs : List X) (i : ℕ) (x y : X) → slice_set (slice_set xs i x) i y ≡ slice_set xs i y
put-twice [] i x y = refl
put-twice (z ∷ zs) zero x y = refl
put-twice (z ∷ zs) (suc i) x y = ap (λ (rest : List _). z ∷ rest) (put-twice zs i x y)

module _ {X : Type 0} (Q : X → Type 0) where
  All-behind : (xs ys : List X) (x : X) → All Q (xs ++ x ∷ ys) → Q x × All Q (xs ++ ys)
  All-behind [] ys x all = (All-head Q x ys all, All-tail Q x ys all)
  All-behind (z ∷ zs) ys x all =
      let rest = All-behind zs ys x (All-tail Q z (zs ++ x ∷ ys) all) in
      (rest.0, All-cons Q z (zs ++ ys) (All-head Q z (zs ++ x ∷ ys) all) rest.1)

-- ---- messages

-- a message of worker w
pub record IsMessageOf {P : Type 0} (w : ℕ) (letter : Letter P) : Type 0 where
  pub plus : letter.sign ≡ Plus
  pub stamped : letter.event.rank.stamp.worker ≡ w

-- the messages of sends are
pub messages-of : {P : Type 0} (w serial : ℕ) (sends : List (Sent P)) → AllByRecursion (IsMessageOf w) (map (signed Plus) (stamped w serial sends))
messages-of w serial [] = tt
messages-of w serial (send ∷ sends) = (record { plus = refl; stamped = refl }, messages-of w (serial + 1) sends)

module _ {S P K : Type 0} (handlers : Handlers S P K) (config : Config) (w : ℕ) (streams : List Stream) (sorted_by : Config) (serial : ℕ) (until : Time) (kept : ℕ) where
  abbrev pool : Stock S P K → List (Letter P) → List ℕ → HeldPool S P K
  pool stock outbox heard = record { worker = w; config = config; stock = stock; outbox = outbox; serial = serial; heard = heard }

  abbrev Fits : Stock S P K → List (Letter P) → List ℕ → Type 0
  Fits stock outbox heard = IsPoolInside config w stock streams (record { config = sorted_by; letters = outbox }) serial until heard kept

  -- where messages that are delivered lead
  pub record IsWellDelivered (stock : Stock S P K) (letters outbox : List (Letter P)) (heard : List ℕ) (pending left : List (Letter P)) (most : ℕ) : Type 0 where
    pub inside : Fits (record stock { pending = pending }) left (slice_set heard w most)
    pub settled : AreSettled (record stock { pending = pending })
    pub leads : PoolLeadsTo handlers (pool stock (outbox ++ letters) heard) (pool (record stock { pending = pending }) left (slice_set heard w most))

  -- a message that comes straight home
  module _ (letter : Letter P) (letters : List (Letter P)) (stock : Stock S P K) (outbox : List (Letter P)) (heard : List ℕ) (most : ℕ) (h : Fits stock (outbox ++ letter ∷ letters) heard) (settled : AreSettled stock)
      (at : slice_get heard w ≡ Some most) (message : IsMessageOf w letter) (home : ComesHome config w until most outbox letter) where
    abbrev next_heard : List ℕ
    next_heard = slice_set heard w letter.event.rank.stamp.serial

    abbrev next_stock : Stock S P K
    next_stock = record stock { pending = insert_letter letter stock.pending }

    parts : IsWithinRun config.lps (end_of config) letter × AllWithinRun config (outbox ++ letters)
    parts = All-behind (IsWithinRun config.lps (end_of config)) outbox letters letter h.sendable

    at-own : slice_get heard letter.event.rank.stamp.worker ≡ Some most
    at-own = ap (slice_get heard) message.stamped ∙ at

    new : holds_stamp Plus (letter_rank letter).stamp stock ≡ false
    new = not-held stock (letter_rank letter).stamp heard most at-own home.new h.heard_pending h.heard_past

    rises : most ≤ letter.event.rank.stamp.serial
    rises = (let more = home.new in omega (arith, more))

    more-heard : (stamp : Stamp) → IsHeard heard stamp → IsHeard next_heard stamp
    more-heard stamp before = still-heard heard w most letter.event.rank.stamp.serial stamp at rises before

    is-heard : IsHeard next_heard (letter_rank letter).stamp
    is-heard =
        subst (λ v. IsHeard (slice_set heard v letter.event.rank.stamp.serial) (letter_rank letter).stamp) message.stamped
        (now-heard heard (letter_rank letter).stamp most letter.event.rank.stamp.serial at-own (omega arith))

    mine : IsWorkersLetter config w Plus letter
    mine = record { within = parts.0; own = eqb-true (letter.event.dest % config.workers) w home.own; signed = message.plus }

    next-inside : Fits next_stock (outbox ++ letters) next_heard
    next-inside = record {
      known = h.known;
      inside = message-inside h.inside letter mine (new-pending stock (letter_rank letter).stamp new) (new-past stock (letter_rank letter).stamp new);
      own_streams = h.own_streams;
      reached_all = h.reached_all;
      heard_each = length-set heard w letter.event.rank.stamp.serial ∙ h.heard_each;
      heard_pending = every-insert_ordered (λ (a b : Letter P). rank_before (letter_rank a) (letter_rank b)) (λ (l : Letter P). IsHeard next_heard (letter_rank l).stamp) letter stock.pending is-heard
          (every-weaker (λ (l : Letter P). IsHeard heard (letter_rank l).stamp) (λ (l : Letter P). IsHeard next_heard (letter_rank l).stamp) stock.pending (λ l before. more-heard (letter_rank l).stamp before) h.heard_pending);
      heard_past = every-weaker (λ (e : Placed P K). IsHeard heard (placed_rank e).stamp) (λ (e : Placed P K). IsHeard next_heard (placed_rank e).stamp) stock.past (λ e before. more-heard (placed_rank e).stamp before) h.heard_past;
      enough = h.enough;
      sendable = parts.1;
      by_worker = h.by_worker;
      few_made = h.few_made;
    }

    next-settled : AreSettled next_stock
    next-settled =
        let late = home.late in
        every-insert_ordered (λ (a b : Letter P). rank_before (letter_rank a) (letter_rank b)) (ComesAfter stock.past) letter stock.pending
        (every-weaker (λ (e : Placed P K). TimeAtMost (placed_rank e).key.time until) (λ (e : Placed P K). e.event.letter.event.dest ≡ letter.event.dest → RankBefore (placed_rank e) (letter_rank letter)) stock.past
        (λ e early same. inl (inl (omega (arith, early, late)))) h.reached_all) settled

    next-leads : PoolLeadsTo handlers (pool stock (outbox ++ letter ∷ letters) heard) (pool next_stock (outbox ++ letters) next_heard)
    next-leads =
        let old = pool stock (outbox ++ letter ∷ letters) heard in
        let noted : HeldPool S P K = record old { heard = next_heard } in
        let left = without-behind (is_for config.workers w) outbox letters letter home.first home.own in
        let taken : HeldPool S P K = record noted { outbox = without_first (is_for config.workers w) (outbox ++ letter ∷ letters) } in
        let unheld = ap (λ sign. holds_stamp sign (letter_rank letter).stamp stock) message.plus ∙ new in
        let leads : PoolLeadsTo handlers old (with_letter letter taken) =
        home-pool-leads old noted taken letter refl refl (find-behind (is_for config.workers w) outbox letters letter home.first home.own) parts.0 unheld handlers h.known h.inside in
        coe 0 1 (j. PoolLeadsTo handlers old (pool (received_in (message.plus j) letter stock) (left j) next_heard)) leads

  -- messages are delivered by steps of the worker
  pub delivered : (letters : List (Letter P)) (stock : Stock S P K) (outbox : List (Letter P)) (heard : List ℕ) (most : ℕ) → Fits stock (outbox ++ letters) heard → AreSettled stock
      → slice_get heard w ≡ Some most → AllByRecursion (IsMessageOf w) letters → (pending left : List (Letter P)) (last : ℕ)
      → AreDelivered config w until letters stock.pending outbox most pending left last → IsWellDelivered stock letters outbox heard pending left last
  delivered [] stock outbox heard most h settled at all pending left last done =
      let all_out : outbox ++ [] ≡ left = append-nil outbox ∙ sym done.1 in
      let noted : heard ≡ slice_set heard w last = sym (ap (slice_set heard w) done.2 ∙ put-there heard w most at) in
      let stocks : stock ≡ record stock { pending = pending } = λ j. record stock { pending = sym done.0 j } in
      record {
        inside = coe 0 1 (j. Fits (stocks j) (all_out j) (noted j)) h;
        settled = subst AreSettled stocks settled;
        leads = coe 0 1 (j. PoolLeadsTo handlers (pool stock (outbox ++ []) heard) (pool (stocks j) (all_out j) (noted j))) (pool-nothing handlers (pool stock (outbox ++ []) heard));
      }
  delivered (letter ∷ letters) stock outbox heard most h settled at all pending left last done = elim done [
    | inl home ↦
        let serial_now = letter.event.rank.stamp.serial in
        let rest = delivered letters (record stock { pending = insert_letter letter stock.pending }) outbox (slice_set heard w serial_now) serial_now
        (next-inside letter letters stock outbox heard most h settled at all.0 home.0) (next-settled letter letters stock outbox heard most h settled at all.0 home.0)
        (get-put_same heard w most serial_now at) all.1 pending left last home.1 in
        let twice = put-twice heard w serial_now last in
        record {
          inside = subst (Fits (record stock { pending = pending }) left) twice rest.inside;
          settled = rest.settled;
          leads = pool-both handlers (pool stock (outbox ++ letter ∷ letters) heard) (pool (record stock { pending = insert_letter letter stock.pending }) (outbox ++ letters) (slice_set heard w serial_now))
              (pool (record stock { pending = pending }) left (slice_set heard w last)) (next-leads letter letters stock outbox heard most h settled at all.0 home.0)
              (subst (λ (hs : List ℕ). PoolLeadsTo handlers (pool (record stock { pending = insert_letter letter stock.pending }) (outbox ++ letters) (slice_set heard w serial_now)) (pool (record stock { pending = pending }) left hs)) twice rest.leads);
        }
    | inr boxed ↦
        let joined : (outbox ++ letter ∷ []) ++ letters ≡ outbox ++ letter ∷ letters = append_assoc outbox (letter ∷ []) letters in
        let rest = delivered letters stock (outbox ++ letter ∷ []) heard most (subst (λ (ls : List (Letter P)). Fits stock ls heard) (sym joined) h) settled at all.1 pending left last boxed in
        record {
          inside = rest.inside;
          settled = rest.settled;
          leads = subst (λ (ls : List (Letter P)). PoolLeadsTo handlers (pool stock ls heard) (pool (record stock { pending = pending }) left (slice_set heard w last))) joined rest.leads;
        }
  ]
