use Rattle.std.proofs.Common.{◌≡◌, ◌∙◌, ◌+◌, ◌<◌, ◌++◌, true, false, [], ◌∷◌, map, take, refl, sym, ap, arith, Result, Ok, Err, IfOk}
use Rattle.std.specs.Result.{is_err}
use Rattle.std.proofs.lemmas.List.{take_more, take_all, map-append}
use Rattle.vt_key.specs.declared.letter.Mail.{Mail}
use Rattle.vt_pool.proofs.kept.Kept.letters_of.Goals as goal

-- what holds of an answer that isn't a refusal
held : {V E : Type 0} (r : Result V E) (X : Type 0) → is_err r ≡ false → IfOk r (λ _. X) → X
held (Ok v) X ok h = h
held (Err e) X ok h = absurd (let k : true ≡ false = ok in cc)

pub put-requires : goal.put-requires
put-requires g c =
    let room : c.args.stay < c.make_one_more.new.self = held c.make_one_more.result _ (sym c.is_err.ensures.value ∙ c.if-is_err.false) c.make_one_more.ensures.room in
    record { some = omega (arith, room) }

pub loop-mail-init : goal.loop-mail-init
loop-mail-init g c = record { letters = c.new-letters.ensures; stay = c.requires.there }

pub loop-mail-preserved : goal.loop-mail-preserved
loop-mail-preserved g c =
    let old = c.loop-mail.invariant in
    let mails = c.args.mails.now in
    let k = c.loop-mail.mail-index in
    let mail = c.mail-item.result in
    let room : c.args.stay < c.make_one_more.new.self = held c.make_one_more.result _ (sym c.is_err.ensures.value ∙ c.if-is_err.false) c.make_one_more.ensures.room in
    let taken = c.put.ensures.taken in
    let next : take (k + 1) mails ≡ take k mails ++ mail ∷ [] = take_more mails k mail c.loop-mail-test.true ∙ ap (λ (m : Mail _). take k mails ++ m ∷ []) (sym c.mail-item.is) in
    let more = ap (map (λ (m : Mail _). m.letter)) next ∙ map-append (λ (m : Mail _). m.letter) (take k mails) (mail ∷ []) in
    record { letters = c.push_back.ensures ∙ (λ j. old.letters j ++ c.put.ensures.letter j ∷ []) ∙ sym more; stay = omega (arith, room, taken) }

pub returns-then-is_err : goal.returns-then-is_err
returns-then-is_err g c =
    let stay = c.loop-mail.invariant.stay in
    let more = c.make_one_more.ensures.more in
    let kept = c.keep_all.ensures.kept in
    record { letters = tt; stay = omega (arith, stay, more, kept); refused = refl }

pub returns : goal.returns
returns g c =
    let old = c.loop-mail.invariant in
    record { letters = old.letters ∙ ap (map (λ (m : Mail _). m.letter)) (take_all c.loop-mail.mail-index c.args.mails.now c.loop-mail-test.false); stay = old.stay; refused = tt }
