use Rattle.std.proofs.Common.{◌∙◌}
use Rattle.vt_step_text.proofs.WordLemmas.{one_word, two_words, three_words, four_words, five_words}
use Rattle.vt_step_text.proofs.words.step_of_line.Goals as goal

pub returns-in_default : goal.returns-in_default
returns-in_default c = c.step_of_name.ensures ∙ one_word c.args.lps c.args.workers c.args.line.now c.in_default.ensures.parts

pub returns-in_default-cut_once : goal.returns-in_default-cut_once
returns-in_default-cut_once c =
    let name = c.in-Some in
    c.step_with_one.ensures
    ∙ two_words c.args.lps c.args.workers c.args.line.now name.name.now name.rest.now name.ensures.parts c.in_default-cut_once.ensures.parts

pub returns-in_default-cut_once-2 : goal.returns-in_default-cut_once-2
returns-in_default-cut_once-2 c =
    let name = c.in-Some in
    let a = c.in-Some-cut_once in
    c.step_with_two.ensures
    ∙ three_words c.args.lps c.args.workers c.args.line.now name.name.now name.rest.now a.a.now a.rest.now name.ensures.parts a.ensures.parts c.in_default-cut_once-2.ensures.parts

pub returns-in-None : goal.returns-in-None
returns-in-None c =
    let name = c.in-Some in
    let a = c.in-Some-cut_once in
    let b = c.in-Some-cut_once-2 in
    c.step_with_three.ensures
    ∙ four_words c.args.lps c.args.workers c.args.line.now name.name.now name.rest.now a.a.now a.rest.now b.b.now b.rest.now name.ensures.parts a.ensures.parts b.ensures.parts c.in-None.ensures.parts

pub returns-in-Some-cut_once-3 : goal.returns-in-Some-cut_once-3
returns-in-Some-cut_once-3 c =
    let name = c.in-Some in
    let a = c.in-Some-cut_once in
    let b = c.in-Some-cut_once-2 in
    let more = c.in-Some-cut_once-3 in
    five_words c.args.lps c.args.workers c.args.line.now name.name.now name.rest.now a.a.now a.rest.now b.b.now b.rest.now more.field-0.0.now more.field-0.1.now name.ensures.parts a.ensures.parts b.ensures.parts more.ensures.parts
