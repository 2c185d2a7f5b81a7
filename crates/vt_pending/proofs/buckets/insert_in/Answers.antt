use Rattle.std.proofs.Common.{◌≡◌, ◌++◌, Result, Ok, Err, IfOk, IfErr, sym, ap, ◌∙◌}
use Rattle.vt_key.specs.promise.Queues.{letter_rank}
use Rattle.vt_key.specs.inside.Queues.{holds_rank}
use Rattle.vt_pending.specs.inside.Buckets.{list_at, first_holds, insert_here, insert_in, letters_of}
use Rattle.vt_pending.proofs.Lists.{own}
use Rattle.vt_pending.proofs.Inserting.{insert-parted, list-ahead, held-ahead}
use Rattle.vt_pending.proofs.buckets.insert_in.Given.{Over}
use Rattle.vt_pending.proofs.buckets.insert_in.Goals.{After-pass-passed}
use Rattle.vt_pending.proofs.buckets.insert_in.Goals as goal

if_ok : {A B P Q : Type 0} (r : Result A B) → (P → Q) → IfOk r (λ _. P) → IfOk r (λ _. Q)
if_ok (Ok x) f p = f p
if_ok (Err e) f p = tt

if_err : {A B P Q : Type 0} (r : Result A B) → (P → Q) → IfErr r (λ _. P) → IfErr r (λ _. Q)
if_err (Ok x) f p = tt
if_err (Err e) f p = f p

pub insert_here-put-requires-clause-marked : goal.insert_here-put-requires-clause-marked
insert_here-put-requires-clause-marked g c clear =
    let lists = c.args.lists.now in let y = c.get.result.now in
    let own_is : c.args.number ≡ own y = c.requires.own ∙ ap own (sym c.get.ensures) in
    (λ i. list_at (own_is i) (c.pass-passed.ensures.others i)) ∙ list-ahead (letter_rank y) lists ∙ ap (λ n. list_at n lists) (sym own_is) ∙ c.requires.marked clear

pub returns-clause-put : goal.returns-clause-put
returns-clause-put g c =
    let lists = c.args.lists.now in let y = c.get.result.now in let parts = c.pass-passed.ensures in
    let own_is : c.args.number ≡ own y = c.requires.own ∙ ap own (sym c.get.ensures) in
    if_ok c.insert_here-put.result (λ e.
    c.join.ensures ∙ (λ i. parts.passed i ++ (e ∙ (λ j. insert_here (own_is j) (sym c.get.ensures j) (parts.others j))) i)
    ∙ insert-parted y lists ∙ (λ i. insert_in (sym own_is i) (c.get.ensures i) lists)) c.insert_here-put.ensures.put

-- whether its list has the letter's rank tells whether any has it
held : (g : Over) (c : After-pass-passed g) → first_holds c.args.number (letter_rank c.args.letter) c.pass-passed.new.self ≡ holds_rank (letter_rank c.args.letter) (letters_of c.args.lists.now)
held g c =
    let lists = c.args.lists.now in let y = c.get.result.now in
    let own_is : c.args.number ≡ own y = c.requires.own ∙ ap own (sym c.get.ensures) in
    (λ i. first_holds (own_is i) (letter_rank (sym c.get.ensures i)) (c.pass-passed.ensures.others i))
    ∙ held-ahead (letter_rank y) lists (letters_of lists) c.requires.listed.1 c.requires.listed.0 ∙ ap (λ z. holds_rank (letter_rank z) (letters_of lists)) c.get.ensures

pub returns-clause-new : goal.returns-clause-new
returns-clause-new g c = if_ok c.insert_here-put.result (λ e. sym (held g (goal.at.returns-clause-new g c).After-pass-passed) ∙ e) c.insert_here-put.ensures.new

pub returns-clause-held : goal.returns-clause-held
returns-clause-held g c = if_err c.insert_here-put.result (λ e. sym (held g (goal.at.returns-clause-held g c).After-pass-passed) ∙ e) c.insert_here-put.ensures.held
