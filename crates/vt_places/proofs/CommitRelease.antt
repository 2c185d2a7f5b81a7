-- The release of the book after a commit, and the place once its kernel has forgotten what was committed.
use Rattle.std.proofs.Common.{◌≡◌, inr, ℕ, ◌<◌, List, [], ◌∷◌, ◌++◌, refl, sym, subst}
use Rattle.atomic_table.specs.Table.{Allows}
use Rattle.vt_key.specs.promise.Times.{Time}
use Rattle.vt_model.specs.promise.Handler.{Handlers}
use Rattle.vt_model.specs.promise.Histories.{IsLawful}
use Rattle.vt_model.specs.declared.settings.Config.{Config}
use Rattle.vt_model.specs.promise.Simulation.{simulation_of}
use Rattle.vt_model.specs.promise.Settings.{end_of}
use Rattle.vt_steps.specs.declared.step.Step.TheVariants.{Commit}
use Rattle.vt_steps.specs.declared.step.Reply.TheVariants.{Done}
use Rattle.vt_steps.specs.promise.World.{Part}
use Rattle.vt_steps.specs.promise.PartSteps.{part_after_commit}
use Rattle.vt_steps.specs.inside.Cells.{book_cell, Cell}
use Rattle.vt_steps.specs.inside.Marked.{Made, marked, made_done, Leads}
use Rattle.vt_steps.proofs.steps.LocalLeads.{leads}
use Rattle.vt_kernel.specs.inside.Held.{HeldWorker, StandsFor}
use Rattle.vt_cells.specs.inside.Calls.{CommitsTo}
use Rattle.vt_cells.proofs.BookSteps.{commit-acts}
use Rattle.vt_places.specs.declared.view.View.{View}
use Rattle.vt_places.specs.inside.Slots.{cell_count, word_at, home_word, cell_at}
use Rattle.vt_places.specs.inside.Kept.{Sat, IsTableRight}
use Rattle.vt_places.specs.inside.Calls.{Reaches, Visited, Holding, ShowsFloor}
use Rattle.vt_places.specs.inside.Commits.{Commits}
use Rattle.vt_places.proofs.CallLemmas.{WithHand, done-held}
use Rattle.vt_places.proofs.Growth.{grown-not}
use Rattle.vt_places.proofs.Keeps.{releases}
use Rattle.vt_places.proofs.Releases.{home-not_claimed, home-not_empty}

module _ {S P K : Type 0} (handlers : Handlers S P K) (config : Config) where
  -- after local steps and a commit
  pub leaves-committed : IsLawful (simulation_of handlers config) → (slots id k : ℕ) (m : Sat P) (worker : ℕ) (seen : Time) (found now : Cell P) (lent : HeldWorker S P K) → k < cell_count config.workers
      → worker ≡ m.0.worker → cell_at config.workers k ≡ book_cell → Holding config m k found now → CommitsTo handlers config worker lent found now → ShowsFloor (end_of config) seen now → Reaches handlers config m.0 lent
      → Allows (IsTableRight (simulation_of handlers config) config) slots id m (word_at k) (λ _. home_word) (λ _. (λ (n : ℕ) (after : Sat P). (after.1 ≡ []) × Commits handlers config m.0 worker lent seen after.0) home_word)
  leaves-committed lawful slots id k m worker seen found now lent near whose at h does sees way =
      let sim = simulation_of handlers config in
      let left = part_after_commit way.part in
      let own : List Made = made_done way.steps ++ record { step = Commit worker; reply = Done } ∷ [] in
      let goes : Leads sim m.0.worker (cell_at sim.workers k) m.0.part found (way.steps ++ Commit worker ∷ []) left now own =
      leads sim m.0.worker (cell_at sim.workers k) way.steps (Commit worker) m.0.part way.part left found now Done way.led whose (sym at) (does way.part way.stands) in
      releases sim config lawful slots id k home_word m found h.slot (way.steps ++ Commit worker ∷ []) left own (λ log. log ++ marked m.0.worker (way.steps ++ Commit worker ∷ [])) seen
      (λ (n : ℕ) (after : Sat P). (after.1 ≡ []) × Commits handlers config m.0 worker lent seen after.0) near home-not_claimed (λ e _. home-not_empty e) h.carried h.hand h.right
      (subst (λ (c : Cell P). Leads sim m.0.worker (cell_at sim.workers k) m.0.part found (way.steps ++ Commit worker ∷ []) left c own) (sym h.now_is) goes)
      (λ log _. grown-not m.0.worker (log ++ marked m.0.worker (way.steps ++ Commit worker ∷ [])))
      (inr (subst (λ (c : Cell P). ShowsFloor sim.end seen c) (sym h.now_is) sees))
      (λ n known. (
        refl,
        record {
          steps = way.steps;
          part = way.part;
          led = way.led;
          stood = way.stands;
          mine = refl;
          gone = refl;
          at = record {
            cell = k;
            about = sym at;
            found = found;
            now = now;
            known = known;
            gives = does way.part way.stands;
            log = refl;
          };
          commits = does;
          shows = sees;
          same = record { worker = refl; made = refl; waiting = refl };
          floor = refl;
          rests = refl;
        },
      ))

  -- once the kernel stands for the part without what was committed, the place was visited
  pub committed-visited : (v w : View P) (worker : ℕ) (lent left : HeldWorker S P K) (seen : Time) (after : View P) → WithHand v w → Commits handlers config w worker lent seen after →
      ((part : Part P) → StandsFor handlers lent part → StandsFor handlers left (part_after_commit part)) → left.worker ≡ lent.worker → left.config ≡ lent.config →
      (visited : Visited handlers config v lent (Commit worker) Done left seen after) × ShowsFloor (end_of config) seen visited.visits.at.now
  committed-visited v w worker lent left seen after h r forgets same_worker same_config =
      let x : Commits handlers config (record v { hand = h.0 }) worker lent seen after = subst (λ (y : View P). Commits handlers config y worker lent seen after) h.1 r in (
        record {
          visits = record {
            steps = x.steps;
            part = x.part;
            led = x.led;
            stood = x.stood;
            mine = x.mine;
            at = done-held (simulation_of handlers config) v h.0 x.steps x.part (Commit worker) Done after x.at;
            does = commit-acts handlers config x.commits same_worker same_config forgets;
            stands = subst (StandsFor handlers left) (sym x.gone) (forgets x.part x.stood);
            within = λ past. past;
          };
          same = record { worker = x.same.worker; made = x.same.made; waiting = x.same.waiting };
          floor = x.floor;
          rests = x.rests;
        },
        x.shows,
      )
