use Rattle.std.proofs.Common.{◌≡◌, ◌≤◌, map, take}
use Rattle.vt_pool.proofs.kept.Kept.letters_of.Given as goal

abbrev pub invariant-loop-mail : goal.invariant-loop-mail
invariant-loop-mail g l = record {
  letters : l.letters ≡ map (λ mail. mail.letter) (take l.mail-index l.mails);
  stay : l.fn.stay ≤ l.self;
}
