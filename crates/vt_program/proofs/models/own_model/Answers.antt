use Rattle.std.proofs.Common.{◌≢◌, rules, subst, sym}
use Rattle.vt_options.specs.promise.Own.{AreInRange}
use Rattle.vt_command.specs.promise.Table.{stations_table}
use Rattle.vt_program.proofs.ModelLemmas.{is_third, stations_within}
use Rattle.vt_program.proofs.models.own_model.Goals as goal

pub stations_of-requires : goal.stations_of-requires
stations_of-requires c =
    let model = c.args.chosen.now.model in
    let values = c.args.chosen.now.values.items in
    let no_hop : model ≢ 0 = search rules in
    let no_phold : model ≢ 1 = search rules in
    let given = c.requires.given in
    subst (AreInRange stations_table) (sym c.as_slice-values.ensures.value) (stations_within c.requires.texts model values given (is_third c.requires.texts model values given no_hop no_phold))
