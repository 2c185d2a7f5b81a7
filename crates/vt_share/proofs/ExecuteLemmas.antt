-- Execute of the least pending message, as contracts of a worker say it.
use Rattle.std.proofs.Common.{◌<◌, refl}
use Rattle.vt_key.specs.declared.fault.Fault.{Fault}
use Rattle.vt_model.specs.promise.Handler.{Handlers}
use Rattle.vt_pool.specs.inside.Executing.{HasExecuted, IsNotExecuted}
use Rattle.vt_pool.specs.inside.Inside.{IsStockInside}
use Rattle.vt_pool.specs.inside.Share.{HeldPool, HeldShare, seen, with_pool}
use Rattle.vt_share.specs.inside.Calls.{ExecutesNext, IsNextRefusal}
use Rattle.vt_share.proofs.LetterLemmas.{first-least}

module _ {S P K : Type 0} (handlers : Handlers S P K) (rest : HeldShare S P K) (old : HeldPool S P K) where
  pub executes-next : (new : HeldPool S P K) → old.worker < old.config.workers → IsStockInside old.config old.worker old.stock → HasExecuted handlers old new
      → ExecutesNext handlers (seen (with_pool rest old)) (seen (with_pool rest new))
  executes-next new known inside h = record {
    letter = h.letter;
    least = first-least old.config old.worker old.stock known inside (seen (with_pool rest old)) refl h.letter h.later h.first;
    steps = h.steps rest;
  }

  pub next-refused : old.worker < old.config.workers → IsStockInside old.config old.worker old.stock → (fault : Fault) → IsNotExecuted handlers old fault → IsNextRefusal handlers (seen (with_pool rest old)) fault
  next-refused known inside fault h = record {
    letter = h.letter;
    least = first-least old.config old.worker old.stock known inside (seen (with_pool rest old)) refl h.letter h.later h.first;
    refused = h.refused rest;
  }
