use Rattle.vt_steps.proofs.steps.LetterGuards.{homes-done, accepts-done}
use Rattle.vt_steps.proofs.histories.letters_are_delivered.Goals as goal

pub returns : goal.returns
returns g c =
    let lawful = c.requires.1.1 in
    record {
      homes = λ serial steps w part letter at found. homes-done g.sim lawful serial steps w part at letter found;
      accepts = λ serial steps w i part mail at there. accepts-done g.sim lawful serial steps w part at i mail there;
    }
