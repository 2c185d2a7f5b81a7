use Rattle.std.proofs.Common.{◌≡◌, map, drop}
use Rattle.vt_key.specs.promise.Times.{TimeAtMost, earlier}
use Rattle.vt_steps.specs.promise.Letters.{least_time}
use Rattle.vt_kernel.proofs.cutting.least_of_mail.Given as goal

abbrev pub invariant-loop-mail : goal.invariant-loop-mail
invariant-loop-mail g l = record {
  low : TimeAtMost l.least l.fn.end;
  least : earlier l.least (least_time l.fn.end (map (λ mail. mail.letter) (drop l.mail-index l.mails))) ≡ least_time l.fn.end (map (λ mail. mail.letter) l.mails);
}
