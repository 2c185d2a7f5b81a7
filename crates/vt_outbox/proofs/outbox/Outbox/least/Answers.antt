use Rattle.std.proofs.Common.{◌≡◌, ◌∙◌, List, length, slice_get, refl, sym, ap, arith}
use Rattle.std.specs.List.{filter}
use Rattle.std.proofs.lemmas.Option.{slice_get_read}
use Rattle.vt_key.specs.promise.Times.{earlier}
use Rattle.vt_key.specs.declared.letter.Letter.{Letter}
use Rattle.vt_steps.specs.promise.Letters.{least_time}
use Rattle.vt_steps.specs.promise.PartSteps.{is_for}
use Rattle.vt_outbox.specs.inside.Outbox.{HeldOutbox}
use Rattle.vt_outbox.proofs.OutboxLemmas.{letters_below-none, letters_below-all, least-below_more}
use Rattle.vt_outbox.proofs.outbox.Outbox.least.Goals as goal

pub loop-list-init : goal.loop-list-init
loop-list-init g c =
    sym (ap (least_time c.args.end) (letters_below-none c.args.self.now.config c.args.self.now.letters))

pub loop-list-preserved : goal.loop-list-preserved
loop-list-preserved g c =
    let end = c.args.end in
    let now = c.args.self.now in
    let k = c.loop-list.list-index in
    let items = c.deref-list-items.result.now in
    let there = slice_get_read items (length items) k c.list-item.result refl c.loop-list-test.true c.list-item.is in
    let own = c.self.invariant.sorted k c.list-item.result (ap (λ (ls : List (List (Letter _))). slice_get ls k) (sym c.deref-list-items.ensures.value) ∙ there)
    ∙ ap (λ (o : HeldOutbox _). filter (is_for o.config.workers k) o.letters) c.self.view_is in
    c.earlier-least.ensures
    ∙ (λ j. earlier (c.loop-list.invariant j) ((c.least_of_letters.ensures ∙ ap (least_time end) own) j))
    ∙ sym (least-below_more end now.config k now.letters)

pub returns : goal.returns
returns g c =
    let now = c.args.self.now in
    let past = c.loop-list-test.false in
    let all = c.self.invariant.all_there in
    let size : length c.deref-list-items.result.now ≡ length c.self.inside.lists.items = ap length c.deref-list-items.ensures.value in
    let same : c.self.inside.config.workers ≡ now.config.workers = ap (λ (o : HeldOutbox _). o.config.workers) c.self.view_is in
    c.loop-list.invariant ∙ ap (least_time c.args.end) (letters_below-all now.config c.loop-list.list-index now.letters (omega (arith, past, all, size, same)))
