-- Two letters that annihilate each other: what the process keeps to, and the step of each process that it stands for.
use Rattle.std.proofs.Common.{◌≡◌, ◌||◌, inl, inr, Bool, true, false, if◌then◌else◌, ℕ, suc, List, [], ◌∷◌, Option, Some, None, length, refl, sym, subst, ◌∙◌, ap}
use Rattle.std.specs.Prelude.{All, IfNone, find}
use Rattle.std.proofs.lemmas.List.Elements.{All-from_recursion, recursion_from_All, All-nil, All-cons, All-head, All-tail}
use Rattle.vt_key.proofs.RisingLemmas.{first-false, second-false}
use Rattle.vt_key.specs.declared.order.Rank.{Rank}
use Rattle.vt_key.specs.declared.order.Stamp.{Stamp}
use Rattle.vt_key.specs.declared.letter.Letter.{Letter}
use Rattle.vt_key.specs.declared.letter.Sign.TheVariants.{Plus, Minus}
use Rattle.vt_key.proofs.OrderLemmas.{stamp_same-true}
use Rattle.vt_stream.specs.inside.Words.{Stream}
use Rattle.vt_model.specs.declared.settings.Config.{Config}
use Rattle.vt_model.specs.promise.Handler.{Handlers}
use Rattle.vt_model.specs.promise.Settings.{end_of}
use Rattle.vt_key.specs.promise.Queues.{has_stamp, without_first, has_rank}
use Rattle.vt_key.specs.inside.Queues.{holds_rank}
use Rattle.vt_key.specs.promise.Lists.{Among}
use Rattle.vt_steps.specs.promise.World.{LogicalProcess}
use Rattle.vt_steps.specs.promise.ProcessSteps.{ProcessEffect, are_opposite, cancel_process, can_annihilate}
use Rattle.vt_key.proofs.ListLemmas.{every-without_first, find-among, find-passes}
use Rattle.vt_pending.specs.inside.Letters.{without_stamp}
use Rattle.vt_past.specs.declared.event.PastEvent.{PastEvent}
use Rattle.vt_lp.specs.inside.Held.{HeldProcess, StandsFor, IsOwnLetter, IsNotPending, IsProcessInside}
use Rattle.vt_lp.specs.inside.Guards.{IsDone}

module _ {P : Type 0} where
  -- ---- what the process keeps to

  -- what each letter has, each that is left has
  All-without : (Q : Letter P → Type 0) (stamp : Stamp) (ls : List (Letter P)) → All Q ls → All Q (without_stamp stamp ls)
  All-without Q stamp ls all = All-from_recursion Q (without_stamp stamp ls) (every-without_first Q (has_stamp stamp) ls (recursion_from_All Q ls all))

  -- a rank that is not there is not among those left
  holds-without : (r : Rank) (stamp : Stamp) (ls : List (Letter P)) → holds_rank r ls ≡ false → holds_rank r (without_stamp stamp ls) ≡ false
  holds-without r stamp [] none = none
  holds-without r stamp (l ∷ ls) none =
      let here = first-false (has_rank r l) (holds_rank r ls) none in
      let there = second-false (has_rank r l) (holds_rank r ls) none in
      elim (has_stamp stamp l) as (λ b. holds_rank r (if b then ls else l ∷ without_stamp stamp ls) ≡ false) [
        | true ↦ there
        | false ↦ ap (λ b. b || holds_rank r (without_stamp stamp ls)) here ∙ holds-without r stamp ls there
      ]

  -- where one has the stamp, there is one less
  fewer : (stamp : Stamp) (ls : List (Letter P)) (l : Letter P) → find (has_stamp stamp) ls ≡ Some l → suc (length (without_stamp stamp ls)) ≡ length ls
  fewer stamp [] l found = absurd (let e : None ≡ Some l = found in cc)
  fewer stamp (x ∷ xs) l found = elim (has_stamp stamp x) as (λ b. (if b then Some x else find (has_stamp stamp) xs) ≡ Some l →
      suc (length (if b then xs else x ∷ without_stamp stamp xs)) ≡ length (x ∷ xs)) [
        | true ↦ λ e. refl
        | false ↦ λ e. ap suc (fewer stamp xs l e)
      ] found

  -- ---- whether they annihilate each other

  -- both are there
  both-there : (a b : Option (Letter P)) → are_opposite a b ≡ true → ((x : Letter P) × (a ≡ Some x)) × ((y : Letter P) × (b ≡ Some y))
  both-there None None h = absurd (let e : false ≡ true = h in cc)
  both-there None (Some y) h = absurd (let e : false ≡ true = h in cc)
  both-there (Some x) None h = absurd (let e : false ≡ true = h in cc)
  both-there (Some x) (Some y) h = ((x, refl), (y, refl))

  pub fewer-both : (stamp : Stamp) (pending waiting new_pending new_waiting : List (Letter P)) → new_pending ≡ without_stamp stamp pending → new_waiting ≡ without_stamp stamp waiting →
      can_annihilate stamp pending waiting ≡ true → (suc (length new_pending) ≡ length pending) × (suc (length new_waiting) ≡ length waiting)
  fewer-both stamp pending waiting new_pending new_waiting is are can =
      let there = both-there (find (has_stamp stamp) waiting) (find (has_stamp stamp) pending) can in (
        ap (λ (ls : List (Letter P)). suc (length ls)) is ∙ fewer stamp pending there.1.0 there.1.1,
        ap (λ (ls : List (Letter P)). suc (length ls)) are ∙ fewer stamp waiting there.0.0 there.0.1,
      )

  -- what isn't found fails
  none-passes : (test : Letter P → Bool) (ls : List (Letter P)) (l : Letter P) → find test ls ≡ None → Among l ls → test l ≡ false
  none-passes test [] l none among = elim among [ ]
  none-passes test (x ∷ xs) l none among =
      elim (test x) as (λ b. test x ≡ b → (if b then Some x else find test xs) ≡ None → test l ≡ false) [
        | true ↦ λ is e. absurd (let f : Some x ≡ None = e in cc)
        | false ↦ λ is e. elim among [ inl same ↦ ap test same ∙ is | inr m ↦ none-passes test xs l e m ]
      ] refl none

  nothing-opposite : (b : Option (Letter P)) → are_opposite None b ≡ false
  nothing-opposite None = refl
  nothing-opposite (Some y) = refl

  -- where no waiting letter's stamp will do, none will
  pub none-annihilate : (pending waiting : List (Letter P)) → find (λ l. can_annihilate l.event.rank.stamp pending waiting) waiting ≡ None →
      (stamp : Stamp) → can_annihilate stamp pending waiting ≡ false
  none-annihilate pending waiting none stamp = by (find (has_stamp stamp) waiting) refl where
    by : (o : Option (Letter P)) → find (has_stamp stamp) waiting ≡ o → can_annihilate stamp pending waiting ≡ false
    by None is = ap (λ o. are_opposite o (find (has_stamp stamp) pending)) is ∙ nothing-opposite (find (has_stamp stamp) pending)
    by (Some l) is =
        let fails = none-passes (λ (x : Letter P). can_annihilate x.event.rank.stamp pending waiting) waiting l none (find-among (has_stamp stamp) waiting l is) in
        let same = stamp_same-true l.event.rank.stamp stamp (find-passes (has_stamp stamp) waiting l is) in
        ap (λ (s : Stamp). can_annihilate s pending waiting) (sym same) ∙ fails

-- a fact, also where something is there
pub IfNone-of : {X : Type 0} (o : Option X) (Q : Type 0) → Q → IfNone o Q
IfNone-of None Q q = q
IfNone-of (Some x) Q q = tt

module _ {P K : Type 0} where
  apart-without : (stamp : Stamp) (ls : List (Letter P)) (past : List (PastEvent P K)) → All (IsNotPending ls) past → All (IsNotPending (without_stamp stamp ls)) past
  apart-without stamp ls [] apart = All-nil (IsNotPending (without_stamp stamp ls))
  apart-without stamp ls (e ∷ es) apart =
      All-cons (IsNotPending (without_stamp stamp ls)) e es (holds-without e.letter.event.rank stamp ls (All-head (IsNotPending ls) e es apart))
      (apart-without stamp ls es (All-tail (IsNotPending ls) e es apart))

  -- a message and an anti-message less
  pub inside-cancelled : (config : Config) (p number : ℕ) (stream : Stream) (past : List (PastEvent P K)) (pending waiting new_pending new_waiting : List (Letter P)) (stamp : Stamp) →
      new_pending ≡ without_stamp stamp pending → new_waiting ≡ without_stamp stamp waiting →
      IsProcessInside config p number stream past pending waiting → IsProcessInside config p number stream past new_pending new_waiting
  inside-cancelled config p number stream past pending waiting new_pending new_waiting stamp is are i = record {
    known = i.known;
    few_sends = i.few_sends;
    own_stream = i.own_stream;
    own_pending = subst (λ (ls : List (Letter P)). All (IsOwnLetter p (end_of config) Plus) ls) (sym is) (All-without (IsOwnLetter p (end_of config) Plus) stamp pending i.own_pending);
    own_waiting = subst (λ (ls : List (Letter P)). All (IsOwnLetter p (end_of config) Minus) ls) (sym are) (All-without (IsOwnLetter p (end_of config) Minus) stamp waiting i.own_waiting);
    own_past = i.own_past;
    rising = i.rising;
    apart = subst (λ (ls : List (Letter P)). All (IsNotPending ls) past) (sym is) (apart-without stamp pending past i.apart);
  }

-- ---- the step

module _ {S P K : Type 0} (handlers : Handlers S P K) where
  abbrev cancelled : LogicalProcess P → Stamp → ProcessEffect P
  cancelled h stamp =
      record {
        process = record h { pending = without_first (has_stamp stamp) h.pending; waiting = without_first (has_stamp stamp) h.waiting };
        letters = [];
        serials = 0;
      }

  cancel-by : (held : HeldProcess S P K) (h : LogicalProcess P) (stamp : Stamp) (b : Bool) → can_annihilate stamp held.pending held.waiting ≡ b → StandsFor handlers held h →
      cancel_process stamp h ≡ (if b then Some (cancelled h stamp) else None)
  unfolding cancel_process
  cancel-by held h stamp b is s =
      ap (λ (t : Bool). if t then Some (cancelled h stamp) else None)
      ((λ j. are_opposite (find (has_stamp stamp) (s.waiting j)) (find (has_stamp stamp) (s.pending j))) ∙ is)

  -- it is refused where they don't annihilate each other
  pub cancel-none : (held : HeldProcess S P K) (h : LogicalProcess P) (stamp : Stamp) → can_annihilate stamp held.pending held.waiting ≡ false → StandsFor handlers held h →
      cancel_process stamp h ≡ None
  cancel-none held h stamp is s = cancel-by held h stamp false is s

  -- else both go
  pub cancels : (held : HeldProcess S P K) (h : LogicalProcess P) (stamp : Stamp) (new_pending new_waiting : List (Letter P)) → new_pending ≡ without_stamp stamp held.pending →
      new_waiting ≡ without_stamp stamp held.waiting → can_annihilate stamp held.pending held.waiting ≡ true → StandsFor handlers held h →
      IsDone handlers (record held { pending = new_pending; waiting = new_waiting }) (cancel_process stamp h) [] [] 0 0
  cancels held h stamp new_pending new_waiting is are can s = record {
    effect = cancelled h stamp;
    lawful = cancel-by held h stamp true can s;
    stands = record {
      past = s.past;
      pending = ap (λ ls. without_first (has_stamp stamp) ls) s.pending ∙ sym is;
      waiting = ap (λ ls. without_first (has_stamp stamp) ls) s.waiting ∙ sym are;
      leads = s.leads;
    };
    letters = refl;
    serials = refl;
  }
