use Rattle.std.proofs.Common.{◌∙◌, Bool, List, ℕ, slice_get, ap, sym}
use Rattle.std.proofs.lemmas.Option.{IfSome_then}
use Rattle.vt_marks.specs.inside.Bits.{is_set}
use Rattle.vt_marks.proofs.MarkLemmas.{set-marked, unset-unmarked, if_none-more}
use Rattle.vt_marks.proofs.marks.Marks.first_from.Goals as goal

pub returns-clause-marked : goal.returns-clause-marked
returns-clause-marked c =
    let i = c.self.inside in
    IfSome_then c.first_of_sums.result c.first_of_sums.ensures.set
    (λ first is. (
      is.0,
      ap (λ (bs : List Bool). slice_get bs first) (sym c.self.view_is)
          ∙ set-marked i.count i.words.items first c.self.invariant.none_beyond (ap (λ (ws : List ℕ). is_set ws first) (sym c.deref.ensures.value) ∙ is.1),
    ))

pub returns-clause-first : goal.returns-clause-first
returns-clause-first c =
    let i = c.self.inside in
    IfSome_then c.first_of_sums.result c.first_of_sums.ensures.first
    (λ first none other later before on. unset-unmarked i.count i.words.items other (ap (λ (ws : List ℕ). is_set ws other) (sym c.deref.ensures.value) ∙ none other later before)
    (ap (λ (bs : List Bool). slice_get bs other) c.self.view_is ∙ on))

pub returns-clause-nowhere : goal.returns-clause-nowhere
returns-clause-nowhere c =
    let i = c.self.inside in
    if_none-more c.first_of_sums.result
    (λ none other later on. unset-unmarked i.count i.words.items other (ap (λ (ws : List ℕ). is_set ws other) (sym c.deref.ensures.value) ∙ none other later)
    (ap (λ (bs : List Bool). slice_get bs other) c.self.view_is ∙ on)) c.first_of_sums.ensures.nothing
