use Rattle.vt_places.proofs.station.Station.swap.Goals as goal

pub swap-requires : goal.swap-requires
swap-requires g c = (c.requires.table, c.word_of.ensures.within, rw c.word_of.ensures.word (c.requires.allowed c.word_of.ensures.near))
