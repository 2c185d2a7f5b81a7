use Rattle.std.proofs.Common.{rules, ◌≡◌, ◌∙◌, false, true, find, filter, sym, ap}
use Rattle.vt_key.proofs.ListLemmas.{rising-filter}
use Rattle.vt_pending.specs.inside.Letters.{some_has_rank, is_reached}
use Rattle.vt_key.specs.inside.Queues.{holds_rank}
use Rattle.vt_pending.specs.inside.Buckets.{bucket_of, in_bucket, letters_of, list_at}
use Rattle.vt_pending.proofs.Holding.{holds-first}
use Rattle.vt_pending.proofs.Kept.{marks-of, empty-else, holds-own}
use Rattle.vt_pending.proofs.pending.Pending.holds.Goals as goal

pub returns-then-not-has : goal.returns-then-not-has
returns-then-not-has g c =
    let r = c.args.rank in let s = c.self.inside in let b = c.bucket-number in let all = letters_of s.lists in
    let clear : c.has.result ≡ false = search (rules, c.if-not-has.true) in
    let none = empty-else (filter (in_bucket b.result) all) (λ some. (let h : true ≡ false = sym (c.has.ensures.1 ((marks-of s.mask.bits s.lists all c.self.invariant.0 b.result b.ensures.within).1 some)) ∙ clear in cc)) in
    ap (holds_rank r) (sym none) ∙ ap (λ n. holds_rank r (filter (in_bucket n) all)) b.ensures.value ∙ holds-own r all ∙ ap (holds_rank r) c.self.view_is

pub returns : goal.returns
returns g c =
    let r = c.args.rank in let s = c.self.inside in let b = c.bucket-number in let all = letters_of s.lists in let kept = c.self.invariant.0 in
    let list = ap (list_at b.result) c.iter.ensures ∙ kept.list b.result b.ensures.within ∙ ap (λ n. filter (in_bucket n) all) b.ensures.value in
    c.has_rank.ensures ∙ ap (some_has_rank r) (c.find_in-found.ensures ∙ ap (find (is_reached r)) list)
    ∙ holds-first r (filter (in_bucket (bucket_of r)) all) (rising-filter _ (in_bucket (bucket_of r)) all kept.rising) ∙ holds-own r all ∙ ap (holds_rank r) c.self.view_is
