use Rattle.std.proofs.Common.{◌≡◌, ◌+◌, take}
use Rattle.vt_key.specs.declared.letter.Colour.TheVariants.{White, Red}
use Rattle.vt_steps.specs.promise.Letters.{count_colour}
use Rattle.vt_kernel.proofs.counts.Counts.of_mail.Given as goal

abbrev pub invariant-loop-mail : goal.invariant-loop-mail
invariant-loop-mail g l = record {
  white : l.white ≡ count_colour White (take l.mail-index l.mails);
  red : l.red ≡ count_colour Red (take l.mail-index l.mails);
  all : l.white + l.red ≡ l.mail-index;
}
