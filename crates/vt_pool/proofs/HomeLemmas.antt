-- Home of the first letter for one of the worker's own processes: what it asks, and where it leads.
use Rattle.std.proofs.Common.{◌≡◌, ◌∙◌, ◌/◌, ◌%◌, ◌<◌, Bool, false, List, refl, sym, ap, subst, arith, Option, Some, None, IfSome}
use Rattle.std.specs.List.{All, find}
use Rattle.std.proofs.lemmas.Bool.{eqb-true}
use Rattle.vt_key.specs.promise.Queues.{letter_rank, without_first}
use Rattle.vt_key.specs.declared.letter.Letter.{Letter}
use Rattle.vt_key.specs.declared.letter.Sign.TheVariants.{Plus}
use Rattle.vt_key.proofs.ListLemmas.{find-passes}
use Rattle.vt_model.specs.promise.Handler.{Handlers}
use Rattle.vt_model.specs.promise.Settings.{end_of}
use Rattle.vt_steps.specs.promise.PartSteps.{is_for}
use Rattle.vt_steps.proofs.lists.Indices.{get-within}
use Rattle.vt_lp.specs.inside.Held.{IsWithinRun}
use Rattle.vt_kernel.proofs.DeliveryLemmas.{find-all}
use Rattle.vt_pool.specs.inside.Inside.{IsHeard, IsStockInside}
use Rattle.vt_pool.specs.inside.Share.{HeldPool, PoolLeadsTo, with_pool}
use Rattle.vt_pool.specs.inside.Pool.{MayCome, holds_stamp, weight_of, with_letter}
use Rattle.vt_pool.proofs.ReceiveLemmas.{number-of, index-there}
use Rattle.vt_pool.proofs.ShareLemmas.{home-leads}
use Rattle.vt_outbox.proofs.OutboxLemmas.{length-without}

-- what all have, the first that passes a test has, if there is one
pub found-has : {X : Type 0} (Q : X → Type 0) (test : X → Bool) (xs : List X) (o : Option X) → All Q xs → o ≡ find test xs → IfSome o (λ x. Q x)
found-has Q test xs None all is = tt
found-has Q test xs (Some x) all is = find-all Q test xs x all (sym is)

-- the letters of a pool's outbox without the first one for one of the worker's own processes
abbrev pub left_of : {S P K : Type 0} → HeldPool S P K → List (Letter P)
left_of pool = without_first (is_for pool.config.workers pool.worker) pool.outbox

-- a letter was found in the outbox, a serial may have been noted, and the letter was taken out
module _ {S P K : Type 0} (old noted taken : HeldPool S P K) (letter : Letter P) (note : noted ≡ record old { heard = noted.heard }) (take : taken ≡ record noted { outbox = left_of noted })
    (found : find (is_for old.config.workers old.worker) old.outbox ≡ Some letter) (within : IsWithinRun old.config.lps (end_of old.config) letter)
    (new : holds_stamp letter.sign (letter_rank letter).stamp old.stock ≡ false) where
  taken-is : taken ≡ record old { heard = noted.heard; outbox = left_of old }
  taken-is = take ∙ (λ j. record (note j) { outbox = left_of (note j) })

  own : letter.event.dest % old.config.workers ≡ old.worker
  own = eqb-true (letter.event.dest % old.config.workers) old.worker (find-passes (is_for old.config.workers old.worker) old.outbox letter found)

  -- it may come
  pub home-may-come : (letter.sign ≡ Plus → IsHeard noted.heard (letter_rank letter).stamp) → MayCome taken letter
  home-may-come heard = subst (λ (v : HeldPool S P K). MayCome v letter) (sym taken-is) (record { mine = record { within = within; own = own; signed = refl }; new = new; heard = heard })

  -- one letter less is in the outbox
  pub home-weight : weight_of taken < weight_of old
  home-weight =
      let is = ap weight_of taken-is in
      let less = length-without (is_for old.config.workers old.worker) old.outbox letter found in
      omega (arith, is, less)

  -- Home leads to where it came
  pub home-pool-leads : (handlers : Handlers S P K) → old.worker < old.config.workers → IsStockInside old.config old.worker old.stock → PoolLeadsTo handlers old (with_letter letter taken)
  home-pool-leads handlers known inside =
      subst (λ (v : HeldPool S P K). PoolLeadsTo handlers old (with_letter letter v)) (sym taken-is)
      (λ rest.
      let index = letter.event.dest / old.config.workers in
      let t = get-within old.stock.triples index (index-there letter.event.dest index known inside refl own within.known) in
      home-leads handlers (with_pool rest old) known inside index t.0 letter t.1 found (number-of old.config old.worker letter.event.dest index refl own) within.known new)
