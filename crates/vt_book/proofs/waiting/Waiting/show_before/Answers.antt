use Rattle.std.proofs.Common.{refl}
use Rattle.vt_book.proofs.MovedLemmas.{moved-none, moved-then, moved-left}
use Rattle.vt_book.proofs.waiting.Waiting.show_before.Goals as goal

pub loop-time-init : goal.loop-time-init
loop-time-init c = record { moved = moved-none c.args.time c.args.shown.now.items c.args.self.now; room = c.requires.room }

pub loop-time-preserved : goal.loop-time-preserved
loop-time-preserved c = record {
  moved = moved-then c.args.time c.args.shown.now.items c.args.self.now c.loop-time.shown.items c.loop-time.self c.show_first.new.shown.items c.show_first.new.self c.loop-time.invariant.moved c.loop-time-test.ensures.moved;
  room = c.loop-time-test.ensures.room;
}

pub returns-clause-waiting : goal.returns-clause-waiting
returns-clause-waiting c =
    moved-left c.args.time c.args.shown.now.items c.args.self.now c.show_first.new.shown.items c.show_first.new.self
    (moved-then c.args.time c.args.shown.now.items c.args.self.now c.loop-time.shown.items c.loop-time.self c.show_first.new.shown.items c.show_first.new.self c.loop-time.invariant.moved c.loop-time-test.ensures.moved)
    (c.loop-time-test.ensures.ended refl)
