use Rattle.std.proofs.Common.{◌≡◌, ◌∙◌, ◌+◌, ◌<◌, ◌≤◌, ℕ, suc, false, List, [], ◌∷◌, map, drop, refl, sym, ap, subst, arith, inl, inr}
use Rattle.std.specs.List.{AllByRecursion}
use Rattle.std.proofs.Math.ListN.{drop_of_length-le}
use Rattle.std.proofs.Math.Seq.{drop-cons}
use Rattle.std.proofs.lemmas.Bool.{cases_Bool}
use Rattle.vt_key.specs.promise.Order.{rank_before}
use Rattle.vt_key.specs.promise.Queues.{letter_rank, has_rank}
use Rattle.vt_key.specs.inside.Queues.{holds_rank}
use Rattle.vt_key.specs.declared.order.Stamp.{Stamp}
use Rattle.vt_key.specs.declared.letter.Letter.{Letter}
use Rattle.vt_key.specs.declared.letter.Sign.TheVariants.{Plus}
use Rattle.vt_key.proofs.ListLemmas.{every-weaker, every-insert_ordered}
use Rattle.vt_model.specs.declared.sending.Sent.{Sent}
use Rattle.vt_steps.specs.promise.Letters.{stamped, signed}
use Rattle.vt_lp.proofs.Stamping.{event_of}
use Rattle.vt_outbox.specs.inside.Outbox.{HeldOutbox}
use Rattle.vt_pool.specs.inside.Executing.{ComesHome, AreDelivered}
use Rattle.vt_pool.proofs.GuardLemmas.{none-any, differs-by_stamp}
use Rattle.vt_pool.proofs.delivering.deliver.Given.{Over}
use Rattle.vt_pool.proofs.delivering.deliver.Goals.{After-put-letter}
use Rattle.vt_pool.proofs.delivering.deliver.Goals as goal

-- no letter of a worker has the rank of a message of it with a greater serial
none-such : {P : Type 0} (w most : ℕ) (letter : Letter P) (letters : List (Letter P)) → (letter_rank letter).stamp.worker ≡ w → most < (letter_rank letter).stamp.serial
    → AllByRecursion (λ (x : Letter P). (letter_rank x).stamp.worker ≡ w → (letter_rank x).stamp.serial ≤ most) letters → holds_rank (letter_rank letter) letters ≡ false
none-such w most letter letters own late heard =
    none-any (has_rank (letter_rank letter)) letters
    (every-weaker _ (λ (x : Letter _). has_rank (letter_rank letter) x ≡ false) letters
    (λ x early. differs-by_stamp (letter_rank x) (letter_rank letter)
    (λ same. let few = early (ap (λ (s : Stamp). s.worker) same ∙ own) in let is = ap (λ (s : Stamp). s.serial) same in omega (arith, few, is, late))) heard)

-- the message that was made
made : (g : Over) (c : After-put-letter g) → c.put-letter.result ≡ signed Plus (event_of c.args.worker c.loop-send.serial c.send-item.result)
made g c = c.put-letter.ensures.letter ∙ c.letter_of.ensures

pub put_or_push-requires : goal.put_or_push-requires
put_or_push-requires g c =
    let at = (goal.at.put_or_push-requires g c).After-put-letter in
    let letter = c.put-letter.result in
    let own = ap (λ (l : Letter _). (letter_rank l).stamp.worker) (made g at) in
    let got = ap (λ (l : Letter _). (letter_rank l).stamp.serial) c.get.ensures in
    record {
      new = λ goes.
          (let home = c.comes_home-goes.ensures goes in
          let late = home.new in
          none-such c.args.worker c.loop-send.most letter c.loop-send.calendar own (omega (arith, late, got)) c.loop-send.invariant.heard);
    }

pub loop-send-preserved : goal.loop-send-preserved
loop-send-preserved g c =
    let at = (goal.at.loop-send-preserved g c).After-put-letter in
    let send = c.send-item.result in
    let k = c.loop-send.send-index in
    let s = c.loop-send.serial in
    let w = c.args.worker in
    let config = c.args.config in
    let until = c.args.until in
    let sends = c.args.sends.now in
    let letter = c.put-letter.result in
    let is = made g at in
    let up : suc k ≡ k + 1 = omega arith in
    let next : drop k sends ≡ send ∷ drop (k + 1) sends = drop-cons sends k send c.loop-send-test.true ∙ (λ j. sym c.send-item.is j ∷ drop (up j) sends) in
    let later = map (signed Plus) (stamped w (s + 1) (drop (k + 1) sends)) in
    let letters : map (signed Plus) (stamped w s (drop k sends)) ≡ letter ∷ later = ap (λ (xs : List (Sent _)). map (signed Plus) (stamped w s xs)) next ∙ ap (λ (l : Letter _). l ∷ later) (sym is) in
    let old = c.loop-send.invariant in
    let left = c.put-letter.ensures.taken in
    elim (cases_Bool c.comes_home-goes.result) [
      | inl goes ↦
          let new = c.put_or_push.ensures.home goes in
          let home = subst (λ (l : Letter _). ComesHome config w until c.loop-send.most c.loop-send.outbox.letters l) c.get.ensures (c.comes_home-goes.ensures goes) in
          let late = home.new in
          record {
            left = omega (arith, old.left, left);
            next = omega (arith, old.next);
            sorted = ap (λ (o : HeldOutbox _). o.config) new.1 ∙ old.sorted;
            heard = subst (AllByRecursion (λ (x : Letter _). (letter_rank x).stamp.worker ≡ w → (letter_rank x).stamp.serial ≤ c.put_or_push.new.most)) (sym new.0)
                (every-insert_ordered (λ (a b : Letter _). rank_before (letter_rank a) (letter_rank b)) _ letter c.loop-send.calendar
                (λ own. let last = new.2 in omega (arith, last))
                (every-weaker _ _ c.loop-send.calendar (λ x early own. let few = early own in let last = new.2 in omega (arith, few, last, late)) old.heard));
            done = λ pending all last rest. old.done pending all last (subst (λ (ls : List (Letter _)). AreDelivered config w until ls c.loop-send.calendar c.loop-send.outbox.letters c.loop-send.most pending all last) (sym letters)
                (inl (home, coe 0 1 (j. AreDelivered config w until later (new.0 j) (new.1 j).letters (new.2 j) pending all last) rest)));
          }
      | inr stays ↦
          let new = c.put_or_push.ensures.away stays in
          record {
            left = omega (arith, old.left, left);
            next = omega (arith, old.next);
            sorted = ap (λ (o : HeldOutbox _). o.config) new.1 ∙ old.sorted;
            heard = coe 0 1 (j. AllByRecursion (λ (x : Letter _). (letter_rank x).stamp.worker ≡ w → (letter_rank x).stamp.serial ≤ sym new.2 j) (sym new.0 j)) old.heard;
            done = λ pending all last rest. old.done pending all last (subst (λ (ls : List (Letter _)). AreDelivered config w until ls c.loop-send.calendar c.loop-send.outbox.letters c.loop-send.most pending all last) (sym letters)
                (inr (coe 0 1 (j. AreDelivered config w until later (new.0 j) (new.1 j).letters (new.2 j) pending all last) rest)));
          }
    ]

pub loop-send-init : goal.loop-send-init
loop-send-init g c = record {
  left = omega arith;
  next = omega arith;
  sorted = refl;
  heard = c.requires.heard;
  done = λ pending left last rest. rest;
}

pub returns-clause-delivered : goal.returns-clause-delivered
returns-clause-delivered g c =
    let old = c.loop-send.invariant in
    let sends = c.args.sends.now in
    let none : drop c.loop-send.send-index sends ≡ [] = drop_of_length-le sends c.loop-send-test.false in
    old.done _ _ _ (subst (λ (xs : List (Sent _)). AreDelivered c.args.config c.args.worker c.args.until (map (signed Plus) (stamped c.args.worker c.loop-send.serial xs)) c.loop-send.calendar c.loop-send.outbox.letters c.loop-send.most
    c.loop-send.calendar c.loop-send.outbox.letters c.loop-send.most) (sym none) (refl, refl, refl))
