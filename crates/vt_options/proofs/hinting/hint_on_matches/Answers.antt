use Rattle.std.proofs.Common.{rules, ◌≡◌, ◌⊎◌, ◌∙◌, sym, inl, inr, Some, None, codes, subst}
use Rattle.std.proofs.lemmas.Option.{IfSome_then}
use Rattle.vt_options.specs.promise.Line.{given_by, texts_by}
use Rattle.vt_options.specs.inside.Programs.{SetsNothing}
use Rattle.vt_options.proofs.RequestLemmas.{given_is, met, texts_are}
use Rattle.vt_options.proofs.hinting.hint_on_matches.Goals as goal

pub returns-in_default : goal.returns-in_default
returns-in_default c = λ line words walked.
    IfSome_then c.hint_on_missing.result c.hint_on_missing.ensures (λ text is.
    inr (inl (record { none = met line.app words c.args.matches.now None walked c.in_default.ensures.name; text_is = is })))

pub returns : goal.returns
returns c = λ line words walked.
    let name = c.args.name.now in
    let word = c.in_ok-word.word.now in
    let texts = texts_by line.app words (codes "set") in
    let given : (given_by line.app words name ≡ Some word) ⊎ ((name ≡ codes "set") × SetsNothing texts word) = elim c.in_ok-word.ensures [
      | inl first ↦ inl (sym (given_is line.app words c.args.matches.now c.in-Some.inner.now walked c.in-Some.ensures.rows name) ∙ first)
      | inr set ↦ inr (set.0, subst (λ l. SetsNothing l word) (texts_are line.app words c.args.matches.now c.in-Some.inner.now walked c.in-Some.ensures.rows (codes "set")) set.1)
    ] in
    IfSome_then c.hint_on_option.result c.hint_on_option.ensures (λ text is.
    inl (record { takes = c.as_str.result.now; word = word; given = given; shown = is.0; shown_is = is.1; text_is = is.2 }))

pub returns-then-eq : goal.returns-then-eq
returns-then-eq c = λ line words walked.
    IfSome_then c.hint_on_finals.result c.hint_on_finals.ensures (λ text is. inr (inr (inr (record { flag = search rules; text_is = is }))))
