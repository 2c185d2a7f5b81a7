use Rattle.std.proofs.Common.{refl}
use Rattle.vt_station.specs.declared.job.Post.TheVariants.{New}
use Rattle.vt_station.proofs.job.job_of.Goals as goal

pub invariant_of-result : goal.invariant_of-result
invariant_of-result g c =
    record {
      model_is = c.requires.told.0;
      config_is = c.requires.told.1;
      within = c.requires.known;
      there = New c.args.place;
      post_is = refl;
      stands = c.requires.place;
      left = tt;
      finals_are = tt;
    }
