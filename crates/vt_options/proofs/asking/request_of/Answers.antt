use Rattle.std.proofs.Common.{List, [], ◌≡◌, ◌≢◌, ◌∙◌, ap, sym, Some, codes, rules, inl, inr, refl}
use Rattle.std.proofs.lemmas.Result.{IfOk-weaker, IfErr-weaker}
use Rattle.clap.specs.Words.{App, Text, fault_of, subcommand_of, subcommand_name_of, subcommand_rows_of}
use Rattle.clap.specs.declared.parser.matches.ArgMatches.{ArgMatches}
use Rattle.vt_options.specs.promise.Own.{app_for}
use Rattle.vt_options.specs.inside.Own.{models_of}
use Rattle.vt_options.specs.promise.Requests.{AreBy}
use Rattle.vt_options.proofs.RequestLemmas.{given_is, met, texts_are}
use Rattle.vt_options.proofs.OwnLemmas.{run_asked, replay_asked, run_refused, replay_refused}
use Rattle.vt_options.proofs.asking.request_of.Goals as goal

-- the words are by the subcommand whose name was read
by_name : (app : App) (words : List Text) (m : ArgMatches) (name known : Text) → fault_of app words ≡ [] → subcommand_rows_of m ≡ subcommand_of app words → Some name ≡ subcommand_name_of m → name ≡ known → AreBy app known words
by_name app words m name known accepted walked found same = record { accepted = accepted; subcommand = met app words m (Some known) walked (ap Some (sym same) ∙ found) }

pub returns-then-eq-clause-ok : goal.returns-then-eq-clause-ok
returns-then-eq-clause-ok c = λ program words accepted walked.
    IfOk-weaker c.read_run.result _ _ (run_asked program (models_of c.args.table.now) words _ _ (given_is (app_for program (models_of c.args.table.now)) words c.args.matches.now c.in-Some.inner.now walked c.in-Some.ensures.rows) (texts_are (app_for program (models_of c.args.table.now)) words c.args.matches.now c.in-Some.inner.now walked c.in-Some.ensures.rows (codes "set"))
    (by_name _ words c.args.matches.now c.in-Some.name.now (codes "run") accepted walked c.in-Some.ensures.name (search rules))) c.read_run.ensures.ok

pub returns-then-eq-clause-err : goal.returns-then-eq-clause-err
returns-then-eq-clause-err c = λ program words accepted walked.
    IfErr-weaker c.read_run.result _ _ (λ fault. run_refused program (models_of c.args.table.now) words _ _ (given_is (app_for program (models_of c.args.table.now)) words c.args.matches.now c.in-Some.inner.now walked c.in-Some.ensures.rows) (texts_are (app_for program (models_of c.args.table.now)) words c.args.matches.now c.in-Some.inner.now walked c.in-Some.ensures.rows (codes "set")) fault
    (by_name _ words c.args.matches.now c.in-Some.name.now (codes "run") accepted walked c.in-Some.ensures.name (search rules))) c.read_run.ensures.err

pub returns-then-eq-2-clause-ok : goal.returns-then-eq-2-clause-ok
returns-then-eq-2-clause-ok c = λ program words accepted walked.
    IfOk-weaker c.read_replay.result _ _ (replay_asked program (models_of c.args.table.now) words _ _ (given_is (app_for program (models_of c.args.table.now)) words c.args.matches.now c.in-Some.inner.now walked c.in-Some.ensures.rows) (texts_are (app_for program (models_of c.args.table.now)) words c.args.matches.now c.in-Some.inner.now walked c.in-Some.ensures.rows (codes "set"))
    (by_name _ words c.args.matches.now c.in-Some.name.now (codes "replay") accepted walked c.in-Some.ensures.name (search rules))) c.read_replay.ensures.ok

pub returns-then-eq-2-clause-err : goal.returns-then-eq-2-clause-err
returns-then-eq-2-clause-err c = λ program words accepted walked.
    IfErr-weaker c.read_replay.result _ _ (λ fault. replay_refused program (models_of c.args.table.now) words _ _ (given_is (app_for program (models_of c.args.table.now)) words c.args.matches.now c.in-Some.inner.now walked c.in-Some.ensures.rows) (texts_are (app_for program (models_of c.args.table.now)) words c.args.matches.now c.in-Some.inner.now walked c.in-Some.ensures.rows (codes "set")) fault
    (by_name _ words c.args.matches.now c.in-Some.name.now (codes "replay") accepted walked c.in-Some.ensures.name (search rules))) c.read_replay.ensures.err

pub returns-else-eq-2-clause-err : goal.returns-else-eq-2-clause-err
returns-else-eq-2-clause-err c = λ program words accepted walked.
    let m = c.args.matches.now in
    let app = app_for program (models_of c.args.table.now) in
    let name = c.in-Some.name.now in
    let is : _ = met app words m (Some name) walked c.in-Some.ensures.name in
    let no_run : name ≢ codes "run" = search rules in
    let no_replay : name ≢ codes "replay" = search rules in
    inl (
      refl,
      inr (record {
        accepted = accepted;
        no_run = λ e. no_run (let same : Some name ≡ Some (codes "run") = sym is ∙ e in cc);
        no_replay = λ e. no_replay (let same : Some name ≡ Some (codes "replay") = sym is ∙ e in cc);
      }),
    )
