use Rattle.std.proofs.Common.{◌≡◌, ◌≤◌, length, map, drop}
use Rattle.vt_pool.specs.inside.Inside.{AreSettled}
use Rattle.vt_share.specs.inside.Calls.{AcceptsFirst}
use Rattle.vt_share.proofs.arriving.accept_new.Given as goal

abbrev pub invariant-loop-accepted : goal.invariant-loop-accepted
invariant-loop-accepted g l = record {
  within : l.accepted ≤ length l.mails;
  letters : l.letters ≡ map (λ mail. mail.letter) (drop l.accepted l.mails);
  leads : AcceptsFirst (g.M.Model.handlers l.model) l.accepted l.mails l.fn.pool l.pool;
  settled : AreSettled l.pool.stock;
  worker : l.pool.worker ≡ l.fn.pool.worker;
  config : l.pool.config ≡ l.fn.pool.config;
}
