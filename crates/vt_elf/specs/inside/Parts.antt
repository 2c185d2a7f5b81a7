-- The parts of a file that is an executable.
use Rattle.std.specs.Prelude.{ℕ, ◌≤◌, ◌≡◌, true, List, length, None}
use Rattle.vt_elf.specs.promise.Segments.{segments_fault}
use Rattle.vt_elf.specs.promise.Executables.{segments}
use Rattle.vt_elf.specs.inside.Symbols.{IsTable}
use Rattle.vt_elf.specs.declared.segment.Segment.{Segment}

-- its segments, and which section is its symbol table
pub record AreParts (file : List ℕ) (found : List Segment) (section : ℕ) : Type 0 where
  pub header : 64 ≤ length file
  pub all : found ≡ segments file
  pub sound : segments_fault (length file) 0 true found ≡ None
  pub table : IsTable file section
