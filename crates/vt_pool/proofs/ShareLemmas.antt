-- Steps on what a worker keeps of its processes lead from each part that it stood for to one that it stands for.
use Rattle.std.proofs.Common.{◌≡◌, ℕ, ◌<◌, false, refl, subst, Some, slice_get}
use Rattle.std.specs.List.{find, remove}
use Rattle.vt_key.specs.promise.Queues.{without_first, has_rank, letter_rank}
use Rattle.vt_key.specs.declared.order.Rank.{Rank}
use Rattle.vt_key.specs.declared.letter.Letter.{Letter}
use Rattle.vt_key.specs.declared.letter.Mail.{Mail}
use Rattle.vt_key.specs.declared.letter.Sign.TheVariants.{Plus}
use Rattle.vt_key.proofs.ListLemmas.{every-find}
use Rattle.vt_model.specs.promise.Handler.{Handlers}
use Rattle.vt_model.specs.promise.Simulation.{Triple}
use Rattle.vt_steps.specs.declared.step.Step.TheVariants.{Cancel, Home, Accept}
use Rattle.vt_steps.specs.promise.PartSteps.{is_for}
use Rattle.vt_pool.specs.inside.View.{number_at}
use Rattle.vt_pool.specs.inside.Steps.{cancelled_in, received_in, LeadsTo}
use Rattle.vt_pool.specs.inside.Inside.{IsWorkersLetter, IsStockInside}
use Rattle.vt_pool.specs.inside.Share.{HeldShare, seen}
use Rattle.vt_pool.proofs.LeadLemmas.{leads-step}
use Rattle.vt_pool.proofs.StepLemmas.{cancel-done, home-done, accept-done}
use Rattle.vt_pool.specs.inside.Pool.{holds_stamp}
use Rattle.vt_pool.proofs.HoldLemmas.{new-letter}

-- the process of a letter of worker w is at this index
abbrev pub IsIndexOf : {S P K : Type 0} → HeldShare S P K → ℕ → Letter P → Type 0
IsIndexOf share i letter = letter.event.dest ≡ number_at share.config share.worker i

module _ {S P K : Type 0} (handlers : Handlers S P K) (old : HeldShare S P K) (known : old.worker < old.config.workers) (inside : IsStockInside old.config old.worker old.stock) where
  -- Cancel of a pending message and a waiting anti-message of one rank
  pub cancel-leads : (i : ℕ) (triple : Triple S) (rank : Rank) (message anti_message : Letter P) → slice_get old.stock.triples i ≡ Some triple
      → find (has_rank rank) old.stock.pending ≡ Some message → find (has_rank rank) old.stock.waiting ≡ Some anti_message → IsIndexOf old i message → IsIndexOf old i anti_message
      → LeadsTo handlers (seen old) (seen (record old { stock = cancelled_in rank old.stock }))
  cancel-leads i triple rank message anti_message at found found_waiting index index_waiting =
      let new : HeldShare S P K = record old { stock = cancelled_in rank old.stock } in
      let mine = every-find (IsWorkersLetter old.config old.worker Plus) (has_rank rank) old.stock.pending message found inside.own_pending in
      let within : number_at old.config old.worker i < old.config.lps = subst (λ p. p < old.config.lps) index mine.within.known in
      leads-step handlers (seen old) (seen new) (Cancel (number_at old.config old.worker i) rank.stamp) refl refl
      (λ part s. cancel-done handlers (seen old) old.stock refl known part s i triple rank message anti_message within at found found_waiting index index_waiting inside.pending_stamps inside.waiting_stamps)

  -- Home of the first letter for one of the worker's processes
  pub home-leads : (i : ℕ) (triple : Triple S) (letter : Letter P) → slice_get old.stock.triples i ≡ Some triple → find (is_for old.config.workers old.worker) old.outbox ≡ Some letter
      → IsIndexOf old i letter → letter.event.dest < old.config.lps → holds_stamp letter.sign (letter_rank letter).stamp old.stock ≡ false
      → LeadsTo handlers (seen old) (seen (record old { stock = received_in letter.sign letter old.stock; outbox = without_first (is_for old.config.workers old.worker) old.outbox }))
  home-leads i triple letter at found index within new_stamp =
      let new : HeldShare S P K = record old { stock = received_in letter.sign letter old.stock; outbox = without_first (is_for old.config.workers old.worker) old.outbox } in
      let p = number_at old.config old.worker i in
      leads-step handlers (seen old) (seen new) (Home old.worker) refl refl
      (λ part s. home-done handlers (seen old) old.stock refl known part s inside.pending_rises inside.waiting_rises i triple letter at found (record {
        within = subst (λ q. q < old.config.lps) index within;
        dest = index;
        not_held = new-letter old.stock p i letter new_stamp;
      }))

  -- Accept of the mail at an index
  pub accept-leads : (k i : ℕ) (triple : Triple S) (mail : Mail P) → slice_get old.stock.triples i ≡ Some triple → slice_get old.arrived k ≡ Some mail
      → IsIndexOf old i mail.letter → mail.letter.event.dest < old.config.lps → holds_stamp mail.letter.sign (letter_rank mail.letter).stamp old.stock ≡ false
      → LeadsTo handlers (seen old) (seen (record old { stock = received_in mail.letter.sign mail.letter old.stock; arrived = remove old.arrived k }))
  accept-leads k i triple mail at arrived index within new_stamp =
      let new : HeldShare S P K = record old { stock = received_in mail.letter.sign mail.letter old.stock; arrived = remove old.arrived k } in
      let p = number_at old.config old.worker i in
      leads-step handlers (seen old) (seen new) (Accept old.worker k) refl refl
      (λ part s. accept-done handlers (seen old) old.stock refl known part s inside.pending_rises inside.waiting_rises k i triple mail at arrived (record {
        within = subst (λ q. q < old.config.lps) index within;
        dest = index;
        not_held = new-letter old.stock p i mail.letter new_stamp;
      }))
