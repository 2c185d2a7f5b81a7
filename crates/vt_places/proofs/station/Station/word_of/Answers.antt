use Rattle.std.proofs.Common.{arith}
use Rattle.vt_places.proofs.station.Station.word_of.Goals as goal

pub words_of-requires : goal.words_of-requires
words_of-requires g c = omega (arith, c.args.self.now.counted, c.args.self.now.table.shared.key.config.few_workers, c.requires.near)

pub returns-clause-within : goal.returns-clause-within
returns-clause-within g c = omega (arith, c.args.self.now.words, c.requires.near, c.words_of.ensures)

pub returns-clause-near : goal.returns-clause-near
returns-clause-near g c = omega (arith, c.args.self.now.counted, c.requires.near)
