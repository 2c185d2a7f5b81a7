use Rattle.vt_parts.specs.inside.RingLaws.{pushed_is, popped_is, push_refused, pop_refused, unpushed_pushed, unpopped_popped}
use Rattle.vt_parts.proofs.RingItems.{held_pushed, first_held, held_popped}
use Rattle.vt_parts.proofs.ring.rings_are_queues.Goals as goal

pub returns-clause-pushed : goal.returns-clause-pushed
returns-clause-pushed g c = λ r item is. (pushed_is r item is, held_pushed r is item)

pub returns-clause-first : goal.returns-clause-first
returns-clause-first g c = λ r is. first_held r is

pub returns-clause-popped : goal.returns-clause-popped
returns-clause-popped g c = λ r is. (popped_is r is, held_popped r is)

pub returns-clause-unpushed : goal.returns-clause-unpushed
returns-clause-unpushed g c = λ r item is. unpushed_pushed r item is

pub returns-clause-unpopped : goal.returns-clause-unpopped
returns-clause-unpopped g c = λ r is. unpopped_popped r is

pub returns-clause-refused : goal.returns-clause-refused
returns-clause-refused g c = λ r is. push_refused r is

pub returns-clause-nothing : goal.returns-clause-nothing
returns-clause-nothing g c = λ r is. pop_refused r is
