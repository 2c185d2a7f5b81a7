use Rattle.std.proofs.Common.{◌≡◌, ◌∙◌, ◌||◌, Bool, [], true, false, List, Ok, Err, ap, refl, sym, subst}
use Rattle.std.specs.List.{list_any}
use Rattle.vt_key.specs.promise.Order.{rank_same}
use Rattle.vt_key.specs.declared.letter.Letter.{Letter}
use Rattle.vt_key.specs.declared.letter.Sign.{Sign}
use Rattle.vt_key.specs.declared.letter.Sign.TheVariants.{Plus, Minus}
use Rattle.vt_key.specs.promise.Times.{TimeBefore}
use Rattle.vt_key.specs.promise.Queues.{has_rank}
use Rattle.vt_model.specs.promise.Settings.{end_of}
use Rattle.vt_steps.specs.promise.ProcessSteps.{accept_process}
use Rattle.vt_past.specs.declared.event.PastEvent.{PastEvent}
use Rattle.vt_lp.specs.inside.Held.{HeldProcess, StandsFor, IsProcessInside}
use Rattle.vt_lp.specs.inside.Guards.{IsDone, holds_letter}
use Rattle.vt_lp.proofs.AcceptLemmas.{either, ok-is, err-is, accept-none, accepts-message, accepts-anti_message, inside-message, inside-anti_message}
use Rattle.vt_lp.proofs.ProcessView.{process_view}
use Rattle.vt_lp.proofs.lp.Lp.accept.Goals.{in-Plus, in-Plus-2, in-Minus}
use Rattle.vt_lp.proofs.lp.Lp.accept.Goals as goal

-- whether an executed message has a letter's rank
abbrev executed : {P K : Type 0} → List (PastEvent P K) → Letter P → Bool
executed past letter = list_any (λ (e : PastEvent _ _). rank_same e.letter.event.rank letter.event.rank) past

-- whether a process holds a letter's rank, under this sign
abbrev is_held : {S P K : Type 0} → HeldProcess S P K → Letter P → Sign → Bool
is_held held letter sign = holds_letter held.pending held.waiting held.past sign letter.event.rank

-- in either of two
in-first : (a b : Bool) → a ≡ true → (a || b) ≡ true
in-first a b is = ap (λ t. t || b) is

in-second : (a b : Bool) → b ≡ true → (a || b) ≡ true
in-second true b is = refl
in-second false b is = is

in-none : (a b : Bool) → a ≡ false → b ≡ false → (a || b) ≡ false
in-none a b first second = ap (λ t. t || b) first ∙ second

pub invariant_of-self : goal.invariant_of-self
invariant_of-self g c =
    let inside = c.self.inside in
    let x = c.args.letter in
    let own : c.get.result.now ≡ x = c.get.ensures in
    let sign : x.sign ≡ Plus = ap (λ (l : Letter _). l.sign) (sym own) ∙ c.in-Plus-2.is in
    let dest = c.requires.dest ∙ ap (λ (v : HeldProcess _ _ _). v.lp) (sym c.self.view_is) in
    let soon = subst (λ (v : HeldProcess _ _ _). TimeBefore x.event.rank.key.time (end_of v.config)) (sym c.self.view_is) c.requires.soon in
    let not_past : executed inside.past x ≡ false = ap (executed inside.past) (sym own) ∙ sym c.has_executed.ensures ∙ c.if-has_executed.false in
    let put = c.insert_new-put in
    let new = put.new.self in
    either put.result
    (λ a letters none. inside-message inside.config inside.lp inside.process.number inside.process.stream inside.past inside.pending inside.waiting new x letters
    (record { dest = dest; soon = soon; signed = sign }) (in-none (list_any (has_rank x.event.rank) inside.pending) (executed inside.past x) none not_past) c.self.invariant)
    (λ e kept. subst (λ (ls : List (Letter _)). IsProcessInside inside.config inside.lp inside.process.number inside.process.stream inside.past ls inside.waiting) (sym kept.1) c.self.invariant)
    put.ensures.letters put.ensures.new put.ensures.unchanged

pub invariant_of-self-in-Minus : goal.invariant_of-self-in-Minus
invariant_of-self-in-Minus g c =
    let inside = c.self.inside in
    let x = c.args.letter in
    let sign : x.sign ≡ Minus = ap (λ (l : Letter _). l.sign) (sym c.get.ensures) ∙ c.in-Minus.is in
    let dest = c.requires.dest ∙ ap (λ (v : HeldProcess _ _ _). v.lp) (sym c.self.view_is) in
    let soon = subst (λ (v : HeldProcess _ _ _). TimeBefore x.event.rank.key.time (end_of v.config)) (sym c.self.view_is) c.requires.soon in
    let put = c.insert_new-put-in-Minus in
    let new = put.new.self in
    either put.result
    (λ a letters none. inside-anti_message inside.config inside.lp inside.process.number inside.process.stream inside.past inside.pending inside.waiting new x letters
    (record { dest = dest; soon = soon; signed = sign }) c.self.invariant)
    (λ e kept. subst (λ (ls : List (Letter _)). IsProcessInside inside.config inside.lp inside.process.number inside.process.stream inside.past inside.pending ls) (sym kept.1) c.self.invariant)
    put.ensures.letters put.ensures.new put.ensures.unchanged

pub returns-in-Ok-clause-done : goal.returns-in-Ok-clause-done
returns-in-Ok-clause-done g c handlers h s =
    let x = c.args.letter in let i = c.self.inside in let held = process_view i.lp i.config i.process.state i.process.number i.process.stream i.past i.pending i.waiting in
    let stands = subst (λ (v : HeldProcess _ _ _). StandsFor handlers v h) (sym c.self.view_is) s in
    elim c.match-sign.branch [
      | in-Plus w ↦ absurd (let wrong : Err x ≡ Ok c.in-Ok.field-0 = sym w.put-is ∙ c.in-Ok.is in cc)
      | in-Plus-2 w ↦
          let sign : x.sign ≡ Plus = ap (λ (l : Letter _). l.sign) (sym c.get.ensures) ∙ w.in-Plus-2.is in
          let is = sym w.put-is ∙ c.in-Ok.is in
          let letters = ok-is w.insert_new-put.result c.in-Ok.field-0 is w.insert_new-put.ensures.letters in
          let none = ok-is w.insert_new-put.result c.in-Ok.field-0 is w.insert_new-put.ensures.new in
          let not_past : executed i.past x ≡ false = ap (executed i.past) (sym c.get.ensures) ∙ sym w.has_executed.ensures ∙ w.if-has_executed.false in
          let never : is_held held x x.sign ≡ false = ap (is_held held x) sign ∙ in-none (list_any (has_rank x.event.rank) i.pending) (executed i.past x) none not_past in
          subst (λ (v : HeldProcess _ _ _). IsDone handlers v (accept_process x h) [] [] 0 0) (sym w.self-is)
          (accepts-message handlers held h x w.insert_new-put.new.self sign letters never stands)
      | in-Minus w ↦
          let sign : x.sign ≡ Minus = ap (λ (l : Letter _). l.sign) (sym c.get.ensures) ∙ w.in-Minus.is in
          let is = sym w.put-is ∙ c.in-Ok.is in
          let letters = ok-is w.insert_new-put-in-Minus.result c.in-Ok.field-0 is w.insert_new-put-in-Minus.ensures.letters in
          let never : is_held held x x.sign ≡ false = ap (is_held held x) sign ∙ ok-is w.insert_new-put-in-Minus.result c.in-Ok.field-0 is w.insert_new-put-in-Minus.ensures.new in
          subst (λ (v : HeldProcess _ _ _). IsDone handlers v (accept_process x h) [] [] 0 0) (sym w.self-is)
          (accepts-anti_message handlers held h x w.insert_new-put-in-Minus.new.self sign letters never stands)
    ]

pub returns-in-Err-clause-refused : goal.returns-in-Err-clause-refused
returns-in-Err-clause-refused g c handlers h s =
    let x = c.args.letter in let i = c.self.inside in let held = process_view i.lp i.config i.process.state i.process.number i.process.stream i.past i.pending i.waiting in
    let stands = subst (λ (v : HeldProcess _ _ _). StandsFor handlers v h) (sym c.self.view_is) s in
    elim c.match-sign.branch [
      | in-Plus w ↦
          let sign : x.sign ≡ Plus = ap (λ (l : Letter _). l.sign) (sym c.get.ensures) ∙ w.in-Plus.is in
          let past : executed i.past x ≡ true = ap (executed i.past) (sym c.get.ensures) ∙ sym w.has_executed.ensures ∙ w.if-has_executed.true in
          accept-none handlers held h x (ap (is_held held x) sign ∙ in-second (list_any (has_rank x.event.rank) i.pending) (executed i.past x) past) stands
      | in-Plus-2 w ↦
          let sign : x.sign ≡ Plus = ap (λ (l : Letter _). l.sign) (sym c.get.ensures) ∙ w.in-Plus-2.is in
          let there = err-is w.insert_new-put.result c.in-Err.letter (sym w.put-is ∙ c.in-Err.is) w.insert_new-put.ensures.held in
          accept-none handlers held h x (ap (is_held held x) sign ∙ in-first (list_any (has_rank x.event.rank) i.pending) (executed i.past x) there) stands
      | in-Minus w ↦
          let sign : x.sign ≡ Minus = ap (λ (l : Letter _). l.sign) (sym c.get.ensures) ∙ w.in-Minus.is in
          let there = err-is w.insert_new-put-in-Minus.result c.in-Err.letter (sym w.put-is ∙ c.in-Err.is) w.insert_new-put-in-Minus.ensures.held in
          accept-none handlers held h x (ap (is_held held x) sign ∙ there) stands
    ]
