use Rattle.std.proofs.Common.{◌∙◌, ◌+◌, ◌∷◌, List, map, drop, sym, ap}
use Rattle.std.proofs.lemmas.List.{drop_all, drop_more}
use Rattle.vt_key.specs.promise.Times.{Time, earlier}
use Rattle.vt_key.specs.declared.letter.Letter.{Letter}
use Rattle.vt_key.specs.declared.letter.Mail.{Mail}
use Rattle.vt_steps.specs.promise.Letters.{letter_time, least_time}
use Rattle.vt_kernel.proofs.TimeLemmas.{same_low, earlier_assoc, earlier_first, earlier-end, earlier_low}
use Rattle.vt_kernel.proofs.cutting.least_of_mail.Goals as goal

pub loop-mail-init : goal.loop-mail-init
loop-mail-init g c = record {
  low = same_low c.args.end;
  least = earlier-end c.args.end (map (λ (m : Mail _). m.letter) c.args.mails.now);
}

pub loop-mail-preserved : goal.loop-mail-preserved
loop-mail-preserved g c =
    let end = c.args.end in
    let all = c.args.mails.now in
    let i = c.loop-mail.mail-index in
    let item = c.mail-item.result in
    let letters : List (Mail _) → List (Letter _) = map (λ (m : Mail _). m.letter) in
    let more = drop_more all i item c.loop-mail-test.true ∙ ap (λ (m : Mail _). m ∷ drop (i + 1) all) (sym c.mail-item.is) in
    let lower = c.earlier-least.ensures ∙ ap (earlier c.loop-mail.least) c.when.ensures in
    record {
      low = rw lower (earlier_low c.loop-mail.least (letter_time item.letter) end c.loop-mail.invariant.low);
      least = ap (λ (t : Time). earlier t (least_time end (letters (drop (i + 1) all)))) lower
          ∙ earlier_assoc c.loop-mail.least (letter_time item.letter) (least_time end (letters (drop (i + 1) all)))
          ∙ ap (λ (ms : List (Mail _)). earlier c.loop-mail.least (least_time end (letters ms))) (sym more)
          ∙ c.loop-mail.invariant.least;
    }

pub returns : goal.returns
returns g c =
    let end = c.args.end in
    let least = c.loop-mail.least in
    sym (earlier_first least end c.loop-mail.invariant.low)
    ∙ ap (λ (ms : List (Mail _)). earlier least (least_time end (map (λ (m : Mail _). m.letter) ms))) (sym (drop_all c.loop-mail.mail-index c.args.mails.now c.loop-mail-test.false))
    ∙ c.loop-mail.invariant.least
