-- The table of the models and their options: what each may be, and what it is where it isn't given.
use Rattle.std.specs.Prelude.{List, [], ◌∷◌, Some, true, codes}
use Rattle.vt_models.specs.declared.hop.TheConstants.{MAX_HOPS, MAX_STRIDE, MAX_DELAY, MAX_RISE}
use Rattle.vt_models.specs.declared.phold.TheConstants.{MAX_POPULATION, MAX_REMOTE, MAX_LOOKAHEAD, MAX_SPAN}
use Rattle.vt_models.specs.declared.stations.TheConstants.{MAX_JOBS, MAX_SERVICE, MAX_TRAVEL}
use Rattle.vt_options.specs.promise.Own.{Models}
use Rattle.vt_options.specs.promise.Table.{NumberOption, option}

-- the options of the models that are numbers
abbrev pub hops : NumberOption
hops = option (codes "hops") 0 MAX_HOPS 2

abbrev pub stride : NumberOption
stride = option (codes "stride") 0 MAX_STRIDE 1

abbrev pub delay : NumberOption
delay = option (codes "delay") 1 MAX_DELAY 2

abbrev pub rise : NumberOption
rise = option (codes "rise") 0 MAX_RISE 0

abbrev pub population : NumberOption
population = option (codes "population") 0 MAX_POPULATION 1

abbrev pub remote : NumberOption
remote = option (codes "remote") 0 MAX_REMOTE 0

abbrev pub lookahead : NumberOption
lookahead = option (codes "lookahead") 1 MAX_LOOKAHEAD 1

abbrev pub span : NumberOption
span = option (codes "span") 1 MAX_SPAN 1

abbrev pub jobs : NumberOption
jobs = option (codes "jobs") 0 MAX_JOBS 1

abbrev pub service : NumberOption
service = option (codes "service") 1 MAX_SERVICE 1

abbrev pub travel : NumberOption
travel = option (codes "travel") 1 MAX_TRAVEL 1

-- the options of the models that are numbers, by what they belong to, in the order in which they are tested
abbrev pub hop_table : List NumberOption
hop_table = hops ∷ stride ∷ delay ∷ rise ∷ []

abbrev pub phold_table : List NumberOption
phold_table = population ∷ remote ∷ lookahead ∷ span ∷ []

abbrev pub stations_table : List NumberOption
stations_table = jobs ∷ service ∷ travel ∷ []

-- the models: `hop` where none is named. A program may take their place
abbrev pub twarp_models : Models
twarp_models = record {
  naming = Some (record { option = codes "model"; names = codes "hop" ∷ codes "phold" ∷ codes "stations" ∷ [] });
  tables = hop_table ∷ phold_table ∷ stations_table ∷ [];
  files = [];
  programs = true;
}
