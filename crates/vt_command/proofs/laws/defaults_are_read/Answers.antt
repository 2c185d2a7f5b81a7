use Rattle.std.proofs.Common.{inr, refl}
use Rattle.clap.proofs.OnLiterals.{clap_on_literals}
use Rattle.vt_command.proofs.laws.defaults_are_read.Goals as goal

pub returns : goal.returns
unfolding clap_on_literals
returns c = record {
  run = record {
    run = record { accepted = refl; subcommand = refl };
    options = record {
      settings = record { synch = refl; config = record { workers = refl; lps = refl; end = refl; seed = refl }; turns = refl; records = refl; finals = refl };
      model = record { chosen = refl; values = refl; within = (refl, (refl, (refl, (refl, tt)))) };
      processes = refl;
      program = inr refl;
      paths = refl;
      all_good = refl;
    };
  };
  run_hop = record {
    run = record { accepted = refl; subcommand = refl };
    options = record {
      settings = record { synch = refl; config = record { workers = refl; lps = refl; end = refl; seed = refl }; turns = refl; records = refl; finals = refl };
      model = record { chosen = refl; values = refl; within = (refl, (refl, (refl, (refl, tt)))) };
      processes = refl;
      program = inr refl;
      paths = refl;
      all_good = refl;
    };
  };
  run_phold = record {
    run = record { accepted = refl; subcommand = refl };
    options = record {
      settings = record { synch = refl; config = record { workers = refl; lps = refl; end = refl; seed = refl }; turns = refl; records = refl; finals = refl };
      model = record { chosen = refl; values = refl; within = (refl, (refl, (refl, (refl, tt)))) };
      processes = refl;
      program = inr refl;
      paths = refl;
      all_good = refl;
    };
  };
  run_stations = record {
    run = record { accepted = refl; subcommand = refl };
    options = record {
      settings = record { synch = refl; config = record { workers = refl; lps = refl; end = refl; seed = refl }; turns = refl; records = refl; finals = refl };
      model = record { chosen = refl; values = refl; within = (refl, (refl, (refl, tt))) };
      processes = refl;
      program = inr refl;
      paths = refl;
      all_good = refl;
    };
  };
  replay = record {
    replay = record { accepted = refl; subcommand = refl };
    options = record {
      settings = record { config = record { workers = refl; lps = refl; end = refl; seed = refl }; serial = refl; text = refl };
      model = record { chosen = refl; values = refl; within = (refl, (refl, (refl, (refl, tt)))) };
      processes = refl;
      program = inr refl;
      paths = refl;
      all_good = refl;
    };
  };
  replay_stations = record {
    replay = record { accepted = refl; subcommand = refl };
    options = record {
      settings = record { config = record { workers = refl; lps = refl; end = refl; seed = refl }; serial = refl; text = refl };
      model = record { chosen = refl; values = refl; within = (refl, (refl, (refl, tt))) };
      processes = refl;
      program = inr refl;
      paths = refl;
      all_good = refl;
    };
  };
}
