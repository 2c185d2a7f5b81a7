-- Mail that is accepted, letter after letter.
use Rattle.std.proofs.Common.{◌≡◌, ◌∙◌, ◌⊎◌, inl, inr, true, false, IfSome, ℕ, zero, suc, ◌/◌, ◌<◌, ◌≤◌, List, [], ◌∷◌, drop, length, map, Some, None, slice_get, refl, sym, ap, subst, arith}
use Rattle.std.specs.List.{remove}
use Rattle.std.proofs.lemmas.Option.{get_or_from_slice_get, slice_get_within}
use Rattle.vt_key.specs.promise.Queues.{letter_rank}
use Rattle.vt_key.specs.declared.letter.Letter.{Letter}
use Rattle.vt_key.specs.declared.letter.Mail.{Mail}
use Rattle.vt_key.specs.declared.letter.Sign.TheVariants.{Plus}
use Rattle.vt_model.specs.promise.Handler.{Handlers}
use Rattle.vt_steps.proofs.lists.Indices.{get-within}
use Rattle.vt_kernel.specs.inside.Held.{HeldWorker, AllOwnMail, IsOwnMail}
use Rattle.vt_pool.specs.inside.Inside.{IsHeard, IsStockInside, IsWorkersLetter}
use Rattle.vt_pool.specs.inside.Pool.{MayCome, holds_stamp, with_letter}
use Rattle.vt_pool.specs.inside.Share.{HeldPool, HeldShare, PoolLeadsTo, seen, with_pool}
use Rattle.vt_pool.specs.inside.Steps.{LeadsTo}
use Rattle.vt_pool.proofs.LeadLemmas.{leads-nothing, leads-both}
use Rattle.vt_pool.proofs.ReceiveLemmas.{number-of, index-there}
use Rattle.vt_pool.proofs.ShareLemmas.{accept-leads}
use Rattle.vt_share.specs.inside.Calls.{AcceptsFirst, IsHeldMail}
use Rattle.vt_share.proofs.LetterLemmas.{held-somewhere}

-- what stands behind an item
pub drop-at : {X : Type 0} (xs : List X) (i : ℕ) (x : X) → slice_get xs i ≡ Some x → drop i xs ≡ x ∷ drop (suc i) xs
drop-at [] i x at = absurd (let h : None ≡ Some x = at in cc)
drop-at (y ∷ ys) zero x at = let h : Some y ≡ Some x = at in let same : y ≡ x = cc in ap (λ z. z ∷ ys) same
drop-at (y ∷ ys) (suc i) x at = drop-at ys i x at

-- there is nothing behind the last item
pub past-end : {X : Type 0} (xs : List X) (i : ℕ) → length xs ≤ i → slice_get xs i ≡ None
past-end [] i past = refl
past-end (x ∷ xs) zero past = absurd (omega (arith, past))
past-end (x ∷ xs) (suc i) past = past-end xs i (omega (arith, past))

module _ {S P K : Type 0} (handlers : Handlers S P K) (mails : List (Mail P)) (old : HeldPool S P K) where
  pub accepts-nothing : AcceptsFirst handlers 0 mails old old
  accepts-nothing rest = leads-nothing handlers (seen (with_pool (record rest { arrived = mails }) old))

  -- one letter more
  pub accepts-next : (pool new : HeldPool S P K) (i : ℕ) (mail : Mail P) → pool.worker < pool.config.workers → IsStockInside pool.config pool.worker pool.stock
      → AcceptsFirst handlers i mails old pool → slice_get mails i ≡ Some mail → MayCome pool mail.letter → PoolLeadsTo handlers (with_letter mail.letter pool) new
      → AcceptsFirst handlers (suc i) mails old new
  accepts-next pool new i mail known inside so_far at may comes rest =
      let letter = mail.letter in
      let before = drop-at mails i mail at in
      let here : HeldShare S P K = with_pool (record rest { arrived = drop i mails }) pool in
      let behind : HeldShare S P K = record rest { arrived = drop (suc i) mails } in
      let index = letter.event.dest / pool.config.workers in
      let there = index-there letter.event.dest index known inside refl may.mine.own may.mine.within.known in
      let t = get-within pool.stock.triples index there in
      let number = number-of pool.config pool.worker letter.event.dest index refl may.mine.own in
      let step = accept-leads handlers here known inside 0 index t.0 mail t.1 (ap (λ ms. slice_get ms 0) before) number may.mine.within.known may.new in
      let moved : LeadsTo handlers (seen here) (seen (with_pool behind (with_letter letter pool))) =
      subst (λ ms. LeadsTo handlers (seen here) (seen (with_pool (record rest { arrived = ms }) (with_letter letter pool)))) (ap (λ ms. remove ms 0) before) step in
      leads-both handlers (seen (with_pool (record rest { arrived = mails }) old)) (seen here) (seen (with_pool behind new)) (so_far rest)
      (leads-both handlers (seen here) (seen (with_pool behind (with_letter letter pool))) (seen (with_pool behind new)) moved (comes behind))

  -- ---- a pool that was asked whether it holds the next letter

  module _ (pool asked : HeldPool S P K) (i : ℕ) (mail : Mail P) (same : asked ≡ record pool { heard = asked.heard }) (at : slice_get mails i ≡ Some mail) where
    -- no letter was accepted meanwhile
    pub accepts-asked : AcceptsFirst handlers i mails old pool → AcceptsFirst handlers i mails old asked
    accepts-asked so_far rest =
        let behind : HeldShare S P K = record rest { arrived = drop i mails } in
        subst (LeadsTo handlers (seen (with_pool (record rest { arrived = mails }) old))) (sym (ap (λ p. seen (with_pool behind p)) same)) (so_far rest)

    -- the letter may come, where it isn't held
    pub next-may_come : pool.worker ≡ old.worker → pool.config ≡ old.config → AllOwnMail old.config old.worker mails
        → holds_stamp mail.letter.sign (letter_rank mail.letter).stamp pool.stock ≡ false → (mail.letter.sign ≡ Plus → IsHeard asked.heard (letter_rank mail.letter).stamp) → MayCome asked mail.letter
    next-may_come worker config own new heard =
        let mine : IsOwnMail old.config old.worker mail =
        subst (IsOwnMail old.config old.worker) (get_or_from_slice_get mails i mail mail at) (own i mail (slice_get_within mails i mail at)) in
        let number : asked.worker ≡ old.worker = ap (λ p. p.worker) same ∙ worker in
        let settings : asked.config ≡ old.config = ap (λ p. p.config) same ∙ config in
        record {
          mine = subst (λ w. IsWorkersLetter asked.config w mail.letter.sign mail.letter) (sym number)
              (subst (λ c. IsWorkersLetter c old.worker mail.letter.sign mail.letter) (sym settings) (record { within = mine.within; own = mine.own; signed = refl }));
          new = ap (λ p. holds_stamp mail.letter.sign (letter_rank mail.letter).stamp p.stock) same ∙ new;
          heard = heard;
        }

-- the letters that are left begin with that of the mail at an index
pub next-letter : {P : Type 0} (mails : List (Mail P)) (i : ℕ) (mail : Mail P) (letter : Letter P) (rest : List (Letter P)) → slice_get mails i ≡ Some mail
    → letter ∷ rest ≡ map (λ (m : Mail P). m.letter) (drop i mails) → (letter ≡ mail.letter) × (rest ≡ map (λ (m : Mail P). m.letter) (drop (suc i) mails))
next-letter mails i mail letter rest at is =
    let e : letter ∷ rest ≡ mail.letter ∷ map (λ (m : Mail _). m.letter) (drop (suc i) mails) = is ∙ ap (map (λ (m : Mail _). m.letter)) (drop-at mails i mail at) in
    let first : letter ≡ mail.letter = cc in
    let others : rest ≡ map (λ (m : Mail _). m.letter) (drop (suc i) mails) = cc in
    (first, others)

-- ---- what is left

at-or-none : {X : Type 0} (xs : List X) (i : ℕ) → ((x : X) × (slice_get xs i ≡ Some x)) ⊎ (drop i xs ≡ [])
at-or-none [] zero = inr refl
at-or-none [] (suc i) = inr refl
at-or-none (x ∷ xs) zero = inl (x, refl)
at-or-none (x ∷ xs) (suc i) = at-or-none xs i

-- where some mail is left, the first of it can't be accepted
pub left-held : {S P K : Type 0} (old : HeldWorker S P K) (rest : HeldShare S P K) (pool : HeldPool S P K) (mails : List (Mail P)) (count : ℕ) → pool.worker < pool.config.workers → IsStockInside pool.config pool.worker pool.stock
    → old.arrived ≡ mails → IfSome (slice_get mails count) (λ mail. holds_stamp mail.letter.sign (letter_rank mail.letter).stamp pool.stock ≡ true) → (drop count mails ≡ [] → ⊥)
    → IsHeldMail old (seen (with_pool (record rest { arrived = drop count mails }) pool))
left-held old rest pool mails count known inside arrived held some = elim (at-or-none mails count) [
  | inl found ↦ record {
    accepted = count;
    mail = found.0;
    rest = drop (suc count) mails;
    left = drop-at mails count found.0 found.1;
    others = ap (drop count) (sym arrived);
    is_held = held-somewhere pool.config pool.worker pool.stock known inside found.0.letter.sign (letter_rank found.0.letter).stamp
        (subst (λ o. IfSome o (λ mail. holds_stamp mail.letter.sign (letter_rank mail.letter).stamp pool.stock ≡ true)) found.1 held);
  }
  | inr none ↦ absurd (some none)
]

-- steps that accept mail lead on, whatever equal values the pools and the mail have
pub accepted-leads : {S P K : Type 0} (handlers : Handlers S P K) (share : HeldShare S P K) (old first last new : HeldPool S P K) (mails arrived left : List (Mail P)) (count : ℕ)
    → first ≡ old → new ≡ last → mails ≡ arrived → left ≡ drop count arrived → AcceptsFirst handlers count mails first last
    → LeadsTo handlers (seen (with_pool (record share { arrived = arrived }) old)) (seen (with_pool (record share { arrived = left }) new))
accepted-leads handlers share old first last new mails arrived left count begun ended all behind leads =
    subst (λ v. LeadsTo handlers v (seen (with_pool (record share { arrived = left }) new))) (λ j. seen (with_pool (record share { arrived = all j }) (begun j)))
    (subst (λ v. LeadsTo handlers (seen (with_pool (record share { arrived = mails }) first)) v) (λ j. seen (with_pool (record share { arrived = (ap (drop count) all ∙ sym behind) j }) (sym ended j))) (leads share))
