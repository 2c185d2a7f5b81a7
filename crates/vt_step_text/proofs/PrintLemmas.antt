-- Text that is written in part and held in part.
use Rattle.std.proofs.Common.{ℕ, List, ◌++◌, Option}
use Rattle.vt_text.specs.inside.Writing.{AppendsAllButHeld, AppendsIntoHeld}
use Rattle.vt_text.proofs.TextLemmas.{pushed, then_put, then_stops}

-- room was made, some text was put and then more text
pub both_put : (old now new : Option (List ℕ)) (held held' text first rest : List ℕ) → AppendsAllButHeld old now held text → AppendsAllButHeld now new held' ((held ++ first) ++ rest) → AppendsAllButHeld old new held' (text ++ (first ++ rest))
both_put old now new held held' text first rest g h = then_put old now new (held ++ first) held' text first rest (pushed old now held text first g) h

pub second_stops : (old now new : Option (List ℕ)) (held held' text first rest : List ℕ) → AppendsAllButHeld old now held text → AppendsIntoHeld now new held' ((held ++ first) ++ rest) → AppendsIntoHeld old new held' (text ++ (first ++ rest))
second_stops old now new held held' text first rest g h = then_stops old now new (held ++ first) held' text first rest (pushed old now held text first g) h
