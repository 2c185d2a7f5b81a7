use Rattle.std.proofs.Common.{ℕ, ◌<◌, List, [], Option, length, take, drop, sym, subst, append-nil, arith, length-drop, take-append-drop}
use Rattle.std.proofs.Math.Seq.{take-add}
use Rattle.std.proofs.lemmas.List.{take_all, take_rest}
use Rattle.std.specs.Io.KnownBytes.{Appends}
use Rattle.std.proofs.KnownBytes.{Appends-trans, Appends-kept}
use Rattle.vt_text.specs.promise.Writing.{AppendsBeginning}
use Rattle.vt_text.proofs.writing.write_bytes.Goals as goal

pub loop-done-preserved : goal.loop-done-preserved
loop-done-preserved g c =
    let l = c.loop-done in
    let bytes = c.args.bytes.now in
    let contents = g.W.Write.contents in record {
      within = omega (arith, length-drop l.done bytes, c.in-Ok.ensures.bound);
      appended = rw (take-add l.done c.in-Ok.count bytes) (Appends-trans (contents c.args.writer.now) (contents l.writer) (contents c.write.new.self) _ _ l.invariant.appended (rw (take_rest bytes l.done) at c.in-Ok.ensures.bytes));
    }

-- so many bytes were written, and not all
part_written : (old new : Option (List ℕ)) (bytes : List ℕ) (done : ℕ) → done < length bytes → Appends old new (take done bytes) → AppendsBeginning old new bytes
part_written old new bytes done less written = record {
  sent = take done bytes;
  unsent = drop done bytes;
  whole = sym (take-append-drop done bytes);
  short = omega (arith, less, length-drop done bytes);
  appends = written;
}

pub returns-in-Err-clause-err : goal.returns-in-Err-clause-err
returns-in-Err-clause-err g c =
    let l = c.loop-done in
    part_written _ _ c.args.bytes.now l.done (omega (arith, c.loop-done-test.true))
    (Appends-kept (g.W.Write.contents c.args.writer.now) (g.W.Write.contents l.writer) (g.W.Write.contents c.write.new.self) _ l.invariant.appended c.in-Err.ensures.bytes)

pub returns-in-Ok-eq0-clause-err : goal.returns-in-Ok-eq0-clause-err
returns-in-Ok-eq0-clause-err g c =
    let l = c.loop-done in
    let sent = take l.done c.args.bytes.now in
    part_written _ _ c.args.bytes.now l.done (omega (arith, c.loop-done-test.true))
    (subst (λ (xs : List ℕ). Appends (g.W.Write.contents c.args.writer.now) (g.W.Write.contents c.write.new.self) xs) (append-nil sent)
    (Appends-trans (g.W.Write.contents c.args.writer.now) (g.W.Write.contents l.writer) (g.W.Write.contents c.write.new.self) sent [] l.invariant.appended (rw c.in-Ok-eq0.field-0-test at c.in-Ok-eq0.ensures.bytes)))

pub returns-clause-ok : goal.returns-clause-ok
returns-clause-ok g c =
    subst (λ (xs : List ℕ). Appends (g.W.Write.contents c.args.writer.now) (g.W.Write.contents c.loop-done.writer) xs)
    (take_all c.loop-done.done c.args.bytes.now c.loop-done-test.false) c.loop-done.invariant.appended
