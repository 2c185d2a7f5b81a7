-- Handlers by how far they have come: all of a handler under way but its state.
use Rattle.std.specs.Prelude.{ℕ, List, []}
use Rattle.vt_riscv.specs.inside.Cores.{machine_of, core_of}
use Rattle.vt_guest.specs.declared.calls.Progress.{Progress}
use Rattle.vt_guest.specs.promise.Calls.{Handling}

-- the handler that has come so far, with a state
abbrev pub handling_of : (N : ℕ) → Progress → List ℕ → Handling N
handling_of N p bytes = record { machine = machine_of N p.core bytes; left = p.left; drawn = p.drawn }

-- the handler that has come so far, with no state
abbrev pub bare : Progress → Handling 0
bare p = handling_of 0 p []

-- how far a handler has come
abbrev pub progress_of : {N : ℕ} → Handling N → Progress
progress_of x = record { core = core_of x.machine; left = x.left; drawn = x.drawn }
