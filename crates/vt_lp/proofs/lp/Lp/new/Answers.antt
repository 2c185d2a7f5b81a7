use Rattle.std.proofs.Common.{List, inl, inr, refl, sym, subst, arith}
use Rattle.std.proofs.lemmas.List.Elements.{All-append}
use Rattle.vt_key.specs.declared.letter.Letter.{Letter}
use Rattle.vt_model.specs.promise.Settings.{end_of}
use Rattle.vt_lp.specs.inside.Held.{IsWithinRun, AllWithinRun}
use Rattle.vt_lp.proofs.lp.Lp.new.Goals as goal

pub overflow_add-serial : goal.overflow_add-serial
overflow_add-serial g c = omega (arith, c.len.ensures, c.in-Ok.ensures.all, c.in-Ok.ensures.counted)

pub returns-clause-serial : goal.returns-clause-serial
returns-clause-serial g c = omega (arith, c.len.ensures, c.in-Ok.ensures.all, c.in-Ok.ensures.counted)

pub returns-clause-counted : goal.returns-clause-counted
returns-clause-counted g c = omega (arith, c.len.ensures, c.in-Ok.ensures.all, c.in-Ok.ensures.counted)

pub returns-clause-within : goal.returns-clause-within
returns-clause-within g c all =
    let config = c.args.config in
    subst (λ (xs : List (Letter _)). AllWithinRun config xs) (sym c.append.ensures.0)
    (All-append (IsWithinRun config.lps (end_of config)) c.args.outbox.now c.in-Ok.started.1 all c.in-Ok.ensures.within)

pub returns-then-lp-config-clause-refused : goal.returns-then-lp-config-clause-refused
returns-then-lp-config-clause-refused g c = inl (refl, c.if-lp-config.true)

pub returns-in-Err-clause-refused : goal.returns-in-Err-clause-refused
returns-in-Err-clause-refused g c = inr (c.if-lp-config.false, c.in-Err.ensures.refused)

pub returns-clause-made : goal.returns-clause-made
returns-clause-made g c = (refl, refl, c.if-lp-config.false)
