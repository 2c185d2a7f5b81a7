-- A list of steps that grows at its end.
use Rattle.std.proofs.Common.{◌≡◌, ℕ, List, [], ◌++◌, refl, sym, ◌∙◌, ap}
use Rattle.std.proofs.lemmas.List.{append_assoc, append-nil}
use Rattle.std.specs.List.{AllByRecursion}
use Rattle.vt_steps.specs.declared.step.Step.{Step}
use Rattle.vt_model.specs.promise.Simulation.{Simulation}
use Rattle.vt_steps.specs.promise.World.{opening_world}
use Rattle.vt_steps.specs.inside.Marked.{Marked, Answered, marked, own_steps_of, shown}
use Rattle.vt_steps.proofs.marks.MarkedRuns.{each-marked, own-append, own-others}
use Rattle.vt_places.specs.inside.Kept.{HasGrown}
use Rattle.vt_key.proofs.ListLemmas.{every-append, every-weaker}

-- what one worker has made, another hasn't
made-by : (w q : ℕ) (steps : List Step) → ¬ (q ≡ w) → AllByRecursion (λ m. ¬ (m.worker ≡ q)) (marked w steps)
made-by w q steps ne = every-weaker (λ m. m.worker ≡ w) (λ m. ¬ (m.worker ≡ q)) (marked w steps) (λ m is e. ne (sym e ∙ is)) (each-marked w steps)

-- a list as a place left it
pub grown-not : (w : ℕ) (log : List Marked) → HasGrown w log log
grown-not w log = record { since = []; whole = sym (append-nil log); others = tt }

-- a list in which a worker has made nothing
pub grown-before : (w : ℕ) (log : List Marked) → AllByRecursion (λ m. ¬ (m.worker ≡ w)) log → HasGrown w [] log
grown-before w log others = record { since = log; whole = refl; others = others }

-- more steps of another worker
pub grown-more : (w q : ℕ) (former log : List Marked) (steps : List Step) → ¬ (q ≡ w) → HasGrown q former log → HasGrown q former (log ++ marked w steps)
grown-more w q former log steps ne g = record {
  since = g.since ++ marked w steps;
  whole = ap (λ (l : List Marked). l ++ marked w steps) g.whole ∙ append_assoc former g.since (marked w steps);
  others = every-append (λ m. ¬ (m.worker ≡ q)) g.since (marked w steps) g.others (made-by w q steps ne);
}

-- the steps of the other workers are in it as before
pub own-kept : {S P : Type 0} (sim : Simulation S P) (w q : ℕ) (log : List Marked) (steps : List Step) → ¬ (q ≡ w) → own_steps_of sim q (log ++ marked w steps) ≡ own_steps_of sim q log
own-kept sim w q log steps ne =
    own-append sim q (opening_world sim 0) log (marked w steps)
    ∙ ap (λ (l : List Answered). own_steps_of sim q log ++ l) (own-others sim q (shown sim log) (marked w steps) (made-by w q steps ne))
    ∙ append-nil (own_steps_of sim q log)
