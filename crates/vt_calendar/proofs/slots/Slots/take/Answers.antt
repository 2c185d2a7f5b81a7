use Rattle.std.proofs.Common.{◌≡◌, List, not, Some, find, slice_get, slice_set, subst, ap, arith}
use Rattle.vt_key.specs.promise.Queues.{has_rank, without_first}
use Rattle.vt_key.specs.declared.letter.Letter.{Letter}
use Rattle.vt_calendar.specs.inside.Slots.{IsChanged}
use Rattle.vt_calendar.proofs.SlotLemmas.{list-there, marks-set, used-by}
use Rattle.vt_calendar.proofs.slots.Slots.take.Goals as goal

pub invariant_of-self : goal.invariant_of-self
invariant_of-self g c = (
  marks-set c.self.inside.lists.items c.args.slot c.remove_first-found.new.self c.self.inside.marks c.set.new.self (not c.is_empty-some_left.result) c.set.ensures c.self.invariant.0
      (used-by c.is_empty-some_left.result c.remove_first-found.new.self c.is_empty-some_left.ensures),
  c.self.invariant.1,
)

pub returns : goal.returns
returns g c =
    let lists : List (List (Letter _)) = c.self.inside.lists.items in
    let test = has_rank c.args.rank.now in
    let list : List (Letter _) = c.index_mut-list.result.now in
    let there : slice_get lists c.args.slot ≡ Some list = list-there lists c.args.slot c.self.inside.lists.len list c.self.inside.lists.ok.0 (omega (arith, c.requires.within, c.self.invariant.1)) c.index_mut-list.ensures.value in
    subst (λ (old : List (List (Letter _))). (x : List (Letter _)) × IsChanged c.args.slot x (without_first test x) old (slice_set lists c.args.slot c.remove_first-found.new.self) × (c.remove_first-found.result ≡ find test x)) c.self.view_is
    (list, record { there = there; is = ap (slice_set lists c.args.slot) c.remove_first-found.ensures.others }, c.remove_first-found.ensures.item)
