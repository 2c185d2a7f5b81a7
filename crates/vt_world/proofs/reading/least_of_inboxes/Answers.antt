use Rattle.std.proofs.Common.{◌≡◌, ◌∙◌, ◌+◌, List, [], ◌∷◌, ◌++◌, map, take, sym, ap}
use Rattle.std.specs.List.{flat_map}
use Rattle.std.proofs.lemmas.List.{take_all, take_more}
use Rattle.vt_key.specs.promise.Times.{earlier}
use Rattle.vt_key.specs.declared.letter.Letter.{Letter}
use Rattle.vt_key.specs.declared.letter.Mail.{Mail}
use Rattle.vt_steps.specs.promise.Letters.{least_time}
use Rattle.vt_world.proofs.LeastLemmas.{least-more, mail-letters}
use Rattle.vt_world.proofs.reading.least_of_inboxes.Goals as goal

pub loop-inbox-preserved : goal.loop-inbox-preserved
loop-inbox-preserved g c =
    let end = c.args.end in
    let all = c.args.inboxes.now in
    let i = c.loop-inbox.inbox-index in
    let box : List (Mail _) = c.inbox-item.result in
    let letters : List (Mail _) → List (Letter _) = map (λ (mail : Mail _). mail.letter) in
    let more : take (i + 1) all ≡ take i all ++ box ∷ [] =
    take_more all i box c.loop-inbox-test.true ∙ ap (λ (x : List (Mail _)). take i all ++ x ∷ []) (sym c.inbox-item.is) in
    let here : c.least_of_mail.result ≡ least_time end (letters box) =
    c.least_of_mail.ensures ∙ ap (λ (ms : List (Mail _)). least_time end (letters ms)) (c.deref.ensures.value ∙ c.inbox.view_is) in
    c.earlier-least.ensures
    ∙ (λ j. earlier (c.loop-inbox.invariant j) (here j))
    ∙ sym (least-more end letters (take i all) box)
    ∙ ap (λ (boxes : List (List (Mail _))). least_time end (flat_map letters boxes)) (sym more)

pub returns : goal.returns
returns g c =
    let all = c.args.inboxes.now in
    let letters : List (Mail _) → List (Letter _) = map (λ (mail : Mail _). mail.letter) in
    c.loop-inbox.invariant
    ∙ ap (λ (boxes : List (List (Mail _))). least_time c.args.end (flat_map letters boxes)) (take_all c.loop-inbox.inbox-index all c.loop-inbox-test.false)
    ∙ ap (least_time c.args.end) (mail-letters all)
