use Rattle.std.proofs.Common.{◌∙◌, ◌++◌, ◌+◌, ◌≤◌, length, map, vec_len, List, sym, ap, subst}
use Rattle.std.specs.Vec.{vec_capacity}
use Rattle.vt_key.specs.promise.Times.{Time, TimeAtMost, earlier}
use Rattle.vt_key.specs.declared.letter.Letter.{Letter}
use Rattle.vt_model.specs.promise.Settings.{end_of}
use Rattle.vt_steps.specs.promise.Letters.{least_time}
use Rattle.vt_kernel.specs.inside.Guards.{mailed}
use Rattle.vt_kernel.proofs.TimeLemmas.{earlier-end, same_low}
use Rattle.vt_kernel.proofs.sending.mail_letters.Goals as goal

pub loop-letter-init : goal.loop-letter-init
loop-letter-init g c =
    let all = c.args.letters.now in
    let end = end_of c.args.config in
    let is = c.into_iter-letter-iterator.ensures.into_iter_gives ∙ c.iter-letter-items.ensures in
    record {
      next = tt;
      finite = tt;
      mail = ap (λ (ls : List (Letter _)). c.args.mail.now.items ++ map (mailed c.args.colour) ls) is;
      room = subst (λ (ls : List (Letter _)). vec_len c.args.mail.now + length ls ≤ vec_capacity c.args.mail.now) (sym is) c.requires.room;
      least = ap (λ (t : Time). earlier t (least_time end c.into_iter-letter-iterator.result)) c.end-least.ensures ∙ ap (λ (ls : List (Letter _)). earlier end (least_time end ls)) is ∙ earlier-end end all;
      low = subst (λ (t : Time). TimeAtMost t end) (sym c.end-least.ensures) (same_low end);
    }
