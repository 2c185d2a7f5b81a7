use Rattle.vt_text.proofs.NumberLemmas.{number_said-decimal}
use Rattle.vt_text.proofs.number.numbers_are_read_back.Goals as goal

pub returns : goal.returns
returns c = number_said-decimal
