use Rattle.std.proofs.Common.{◌≡◌, map, arith, ap, refl, sym, subst}
use Rattle.std.specs.List.{AllByRecursion}
use Rattle.vt_model.specs.declared.process.Process.{Process}
use Rattle.vt_model.specs.inside.Process.{triple_at}
use Rattle.vt_outbox.specs.inside.Outbox.{HeldOutbox}
use Rattle.vt_pool.specs.inside.Inside.{ComesAfter}
use Rattle.vt_pool.specs.inside.View.{Stock}
use Rattle.vt_pool.specs.inside.Logged.{placed, AreMade}
use Rattle.vt_pool.specs.inside.Share.{HeldPool}
use Rattle.vt_pool.proofs.OpeningLemmas.{opened-inside, opened-stands, stock_of, standing}
use Rattle.vt_pool.proofs.making.open.Goals as goal

pub invariant_of-result : goal.invariant_of-result
invariant_of-result g c =
    let handlers = g.M.Model.handlers c.args.model.now in
    let items = c.in_ok-processes.processes.items in
    let made = c.in_ok-processes.ensures in
    let stock : Stock _ _ _ = record { triples = map (λ (q : Process _ _ _ _). triple_at q.state q.number q.stream) items; past = map (placed c.args.w) c.in-Ok.empty.1.events; pending = c.in-Ok.empty.2; waiting = c.new-2.result } in
    let is : stock ≡ stock_of (map (λ (q : Process _ _ _ _). standing q) items) =
    λ j. record { triples = map (λ (q : Process _ _ _ _). standing q) items; past = map (placed c.args.w) (c.in-Ok.ensures.log.0 j); pending = c.in-Ok.ensures.calendar j; waiting = c.new-2.ensures j } in (
      opened-inside handlers c.args.config c.args.w items made.started made.count stock c.start_all.new.outbox c.start_all.new.serial c.tick.result c.in-Ok.empty.0.items c.new-3.result c.requires.known is c.in-Ok.ensures.heard
          (ap (λ (o : HeldOutbox _). o.config) made.outbox) made.within made.few,
      subst (AreMade c.start_all.new.serial) (sym c.in-Ok.ensures.log.0) tt,
      omega (arith, c.in-Ok.ensures.log.1, c.len.ensures),
    )

pub returns-clause-opening : goal.returns-clause-opening
returns-clause-opening g c =
    let handlers = g.M.Model.handlers c.args.model.now in
    let items = c.in_ok-processes.processes.items in
    let made = c.in_ok-processes.ensures in
    let pool : HeldPool _ _ _ = record {
      worker = c.args.w;
      config = c.args.config;
      stock = record { triples = map (λ (q : Process _ _ _ _). triple_at q.state q.number q.stream) items; past = map (placed c.args.w) c.in-Ok.empty.1.events; pending = c.in-Ok.empty.2; waiting = c.new-2.result };
      outbox = c.start_all.new.outbox.letters;
      serial = c.start_all.new.serial;
      heard = c.in-Ok.empty.0.items;
    } in
    let is : pool.stock ≡ stock_of (map (λ (q : Process _ _ _ _). standing q) items) =
    λ j. record { triples = map (λ (q : Process _ _ _ _). standing q) items; past = map (placed c.args.w) (c.in-Ok.ensures.log.0 j); pending = c.in-Ok.ensures.calendar j; waiting = c.new-2.ensures j } in
    opened-stands handlers c.args.config c.args.w items made.started made.count pool refl refl is (ap (λ (o : HeldOutbox _). o.letters) made.outbox) made.serial

pub returns-clause-settled : goal.returns-clause-settled
returns-clause-settled g c = subst (AllByRecursion (ComesAfter (map (placed c.args.w) c.in-Ok.empty.1.events))) (sym c.in-Ok.ensures.calendar) tt

pub returns-clause-made : goal.returns-clause-made
returns-clause-made g c = (refl, refl)
