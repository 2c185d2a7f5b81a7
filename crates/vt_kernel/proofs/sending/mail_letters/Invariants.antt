use Rattle.std.proofs.Common.{◌≡◌, ◌+◌, ◌≤◌, ◌++◌, map, length, vec_len}
use Rattle.std.specs.Vec.{vec_capacity}
use Rattle.vt_key.specs.promise.Times.{TimeAtMost, earlier}
use Rattle.vt_model.specs.promise.Settings.{end_of}
use Rattle.vt_steps.specs.promise.Letters.{least_time}
use Rattle.vt_kernel.specs.inside.Guards.{mailed}
use Rattle.vt_kernel.proofs.sending.mail_letters.Given as goal

abbrev pub invariant-loop-letter : goal.invariant-loop-letter
invariant-loop-letter g l = record {
  next : (goal.iterator-loop-letter g).can_next l.letter-iterator;
  finite : (goal.iterator-loop-letter g).is_finite l.letter-iterator;
  mail : l.mail.items ++ map (mailed l.colour) l.letter-iterator ≡ l.fn.mail.items ++ map (mailed l.colour) l.fn.letters;
  room : vec_len l.mail + length l.letter-iterator ≤ vec_capacity l.mail;
  least : earlier l.least (least_time (end_of l.fn.config) l.letter-iterator) ≡ least_time (end_of l.fn.config) l.fn.letters;
  low : TimeAtMost l.least (end_of l.fn.config);
}
