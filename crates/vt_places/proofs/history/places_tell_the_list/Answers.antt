use Rattle.vt_places.proofs.OneList.{places-tell}
use Rattle.vt_places.proofs.RuleTells.{one-log, next-log}
use Rattle.vt_places.proofs.history.places_tell_the_list.Goals as goal

pub returns : goal.returns
returns g c = record {
  told = λ workers log other few few_other told. places-tell workers log other few few_other told;
  one = λ config s k l. one-log g.sim config s k l;
  next = λ config s t id v w made more k l at views same left mine. next-log g.sim config s t id v w made more k l at views same left mine;
}
