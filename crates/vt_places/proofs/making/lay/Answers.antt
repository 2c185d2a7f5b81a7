use Rattle.std.proofs.Common.{rules, ◌≡◌, ℕ, List, replicate, length, get_or, refl, ap, ◌∙◌}
use lib.ListN.{length-replicate}
use Rattle.vt_model.specs.promise.Simulation.{simulation_of}
use Rattle.vt_key.proofs.ResultLemmas.{if_refused}
use Rattle.vt_places.specs.inside.Slots.{cell_count, word_at}
use Rattle.vt_places.proofs.Seating.{starts}
use Rattle.vt_places.proofs.Opening.{opening-inbox, slots-count, slots-full, blank-words}
use Rattle.vt_places.proofs.making.lay.Goals as goal

pub new-requires : goal.new-requires
new-requires g c =
    let config = c.args.config in
    let sim = simulation_of (g.M.Model.handlers c.of.result.value) config in
    let count = word_at (cell_count config.workers) in
    let words : c.as_slice.result.now ≡ replicate count 0 = c.as_slice.ensures.value ∙ search rules in
    let slots = c.in_ok-slots.ensures in
    starts sim config c.as_slice.result.now c.in_ok-slots.slots.items config.some_worker (ap length words ∙ length-replicate count 0) (slots-count config c.in_ok-slots.slots.items slots)
    (λ k. ap (λ (ws : List ℕ). get_or ws k 0) words ∙ blank-words k count)
    (opening-inbox sim)
    (slots-full sim config c.in_ok-slots.slots.items refl refl slots)

pub returns-in_err-slots : goal.returns-in_err-slots
returns-in_err-slots g c = if_refused _ _ c.from_residual.result c.from_residual.ensures.1

pub returns-in_err-words : goal.returns-in_err-words
returns-in_err-words g c = if_refused _ _ c.from_residual-in_err-words.result c.from_residual-in_err-words.ensures.1
