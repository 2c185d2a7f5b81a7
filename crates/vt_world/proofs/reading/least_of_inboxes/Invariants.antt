use Rattle.std.proofs.Common.{◌≡◌, List, map, take}
use Rattle.std.specs.List.{flat_map}
use Rattle.vt_key.specs.declared.letter.Mail.{Mail}
use Rattle.vt_steps.specs.promise.Letters.{least_time}
use Rattle.vt_world.proofs.reading.least_of_inboxes.Given as goal

abbrev pub invariant-loop-inbox : goal.invariant-loop-inbox
invariant-loop-inbox g l = l.least ≡ least_time l.fn.end (flat_map (λ (inbox : List (Mail _)). map (λ (mail : Mail _). mail.letter) inbox) (take l.inbox-index l.inboxes))
