use Rattle.vt_model.proofs.LawLemmas.{lawful_of}
use Rattle.vt_places.proofs.station.Station.store.Goals as goal

pub store-requires : goal.store-requires
store-requires g c =
    let key = c.args.self.now.table.shared.key in
    let m = key.model.value in
    (c.requires.table, c.word_of.ensures.within, rw c.word_of.ensures.word (c.requires.allowed (lawful_of (g.M.Model.handlers m) key.config (g.met.M.Model.start_within m) (g.met.M.Model.forward_within m)) c.word_of.ensures.near))
