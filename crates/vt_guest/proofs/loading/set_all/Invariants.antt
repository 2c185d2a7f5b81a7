use Rattle.std.proofs.Common.{◌≡◌, drop, length}
use Rattle.vt_riscv.specs.declared.layout.TheConstants.{IMAGE, STATE}
use Rattle.vt_guest.specs.promise.Loading.{with_sets, sets_fault}
use Rattle.vt_guest.proofs.loading.set_all.Given as goal

abbrev pub invariant-sets : goal.invariant-sets
invariant-sets l = record {
  image : with_sets IMAGE l.symbols (drop l.set-index l.sets) l.image ≡ with_sets IMAGE l.symbols l.sets l.fn.image;
  state : with_sets STATE l.symbols (drop l.set-index l.sets) l.state ≡ with_sets STATE l.symbols l.sets l.fn.state;
  image_size : length l.image ≡ length l.fn.image;
  state_size : length l.state ≡ length l.fn.state;
  fault : sets_fault l.symbols (length l.fn.image) (length l.fn.state) (drop l.set-index l.sets) ≡ sets_fault l.symbols (length l.fn.image) (length l.fn.state) l.sets;
}
