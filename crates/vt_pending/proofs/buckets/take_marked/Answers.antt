use Rattle.std.proofs.Common.{rules, ◌≡◌, ◌∙◌, false, true, sym}
use Rattle.vt_pending.proofs.Kept.{without-none}
use Rattle.vt_pending.proofs.buckets.take_marked.Goals as goal

pub returns-then-not-has-clause-list : goal.returns-then-not-has-clause-list
returns-then-not-has-clause-list g c =
    let clear : c.has.result ≡ false = search (rules, c.if-not-has.true) in
    c.new.ensures ∙ sym (c.requires.marked (λ set. (let h : true ≡ false = sym (c.has.ensures.1 set) ∙ clear in cc)))

pub returns-then-not-has-clause-others : goal.returns-then-not-has-clause-others
returns-then-not-has-clause-others g c =
    let clear : c.has.result ≡ false = search (rules, c.if-not-has.true) in
    sym (without-none c.args.number c.args.lists.now (c.requires.marked (λ set. (let h : true ≡ false = sym (c.has.ensures.1 set) ∙ clear in cc))))
