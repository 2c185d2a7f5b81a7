use Rattle.std.proofs.Common.{◌≡◌, refl, sym, subst, arith}
use Rattle.std.proofs.lemmas.List.Elements.{All-nil}
use Rattle.vt_key.specs.declared.letter.Colour.TheVariants.{White}
use Rattle.vt_steps.specs.promise.Letters.{Counts}
use Rattle.vt_kernel.specs.inside.Held.{AllOwnMail, IsOwnMail, AreCounted}
use Rattle.vt_share.specs.inside.Held.{share_of}
use Rattle.vt_share.proofs.share.Share.new.Goals as goal

none_counted : (counts : Counts) → counts ≡ record { white = 0; red = 0 } → AreCounted counts
none_counted counts is = subst AreCounted (sym is) (record { white = omega arith; red = omega arith })

pub invariant_of-result : goal.invariant_of-result
invariant_of-result g c =
    let pool = c.in_ok-pool.pool in
    record {
      settled = c.in_ok-pool.ensures.settled;
      own_mail = subst (AllOwnMail pool.config pool.worker) (sym c.new-2.ensures.items) (All-nil (IsOwnMail pool.config pool.worker));
      few_sent = none_counted c.new-3.result c.new-3.ensures;
      few_got = none_counted c.new-4.result c.new-4.ensures;
    }

pub returns-clause-opening : goal.returns-clause-opening
returns-clause-opening g c =
    let pool = c.in_ok-pool.pool in
    c.in_ok-pool.ensures.opening (share_of pool c.new-2.result.items White c.new-3.result c.new-4.result c.end.result c.tick.result)
    (record {
      arrived = c.new-2.ensures.items;
      colour = refl;
      sent = c.new-3.ensures;
      got = c.new-4.ensures;
      red_minimum = c.end.ensures;
      floor = c.tick.ensures;
    })
