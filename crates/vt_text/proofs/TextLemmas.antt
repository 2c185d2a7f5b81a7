-- Lengths of decimal texts, and texts that are partly written and partly held.
use Rattle.std.proofs.Common.{◌≡◌, ℕ, ◌-◌, ◌^◌, ◌<◌, ◌≤◌, List, [], ◌++◌, length, take, drop, Option, ap, refl, sym, subst, ◌∙◌, arith, append_assoc, append-nil, length-append, length-drop, take-append-drop, Result, Ok, Err, OnErr}
use Rattle.std.specs.Fmt.{decimal}
use Rattle.std.specs.Io.KnownBytes.{Appends}
use Rattle.std.specs.List.{flat_map}
use Rattle.std.proofs.lemmas.Fmt.{length-decimal-le}
use Rattle.std.proofs.lemmas.List.{take_all}
use Rattle.std.proofs.lemmas.Grind.{flat_map-append}
use Rattle.std.proofs.KnownBytes.{Appends-nil, Appends-trans}
use Rattle.vt_text.specs.promise.Writing.{AppendsBeginning}
use Rattle.vt_text.specs.inside.Writing.{AppendsAllButHeld, AppendsIntoHeld}

pub length_most : (n : ℕ) → n < 2 ^ 64 → length (decimal n) ≤ 20
length_most n h = length-decimal-le 20 n (omega arith) (omega arith) h

pub length_small : (n : ℕ) → n < 256 → length (decimal n) ≤ 3
length_small n h = length-decimal-le 3 n (omega arith) (omega arith) (omega arith)

pub nothing_yet : (old : Option (List ℕ)) → AppendsAllButHeld old old [] []
nothing_yet old = record { sent = []; whole = sym (append-nil []); appends = Appends-nil old }

-- more text is held
pub pushed : (old now : Option (List ℕ)) (held text more : List ℕ) → AppendsAllButHeld old now held text → AppendsAllButHeld old now (held ++ more) (text ++ more)
pushed old now held text more g = record {
  sent = g.sent;
  appends = g.appends;
  whole = ap (λ l. l ++ more) g.whole ∙ append_assoc g.sent held more;
}

-- some of what was held was written
pub made_room : (old now new : Option (List ℕ)) (held held' text : List ℕ) → AppendsAllButHeld old now held text → AppendsAllButHeld now new held' held → AppendsAllButHeld old new held' text
made_room old now new held held' text g h = record {
  sent = g.sent ++ h.sent;
  whole = g.whole ∙ ap (λ l. g.sent ++ l) h.whole ∙ sym (append_assoc g.sent h.sent held');
  appends = Appends-trans old now new _ _ g.appends h.appends;
}

-- all that was held is written
pub written : (old now new : Option (List ℕ)) (held text : List ℕ) → AppendsAllButHeld old now held text → Appends now new held → Appends old new text
written old now new held text g h = subst (λ (l : List ℕ). Appends old new l) (sym g.whole) (Appends-trans old now new g.sent held g.appends h)

-- a beginning of the text was written, whatever is held
pub begun : (old new : Option (List ℕ)) (held text : List ℕ) → AppendsIntoHeld old new held text → AppendsBeginning old new text
begun old new held text h = record {
  sent = h.before ++ h.begun;
  unsent = h.unsent ++ h.behind;
  whole = h.whole ∙ ap (λ l. h.before ++ (l ++ h.behind)) h.holds ∙ simp append_assoc;
  short = omega (arith, h.short, length-append h.unsent h.behind);
  appends = h.appends;
}

-- of what was held, a beginning is written, and all of it is held still
pub stopped : (old now new : Option (List ℕ)) (held left text rest : List ℕ) → left ≡ held → AppendsAllButHeld old now held text → AppendsBeginning now new held → AppendsIntoHeld old new left (text ++ rest)
stopped old now new held left text rest is g h = record {
  before = g.sent;
  begun = h.sent;
  unsent = h.unsent;
  behind = rest;
  holds = is ∙ h.whole;
  whole = ap (λ l. l ++ rest) g.whole ∙ append_assoc g.sent held rest ∙ ap (λ l. g.sent ++ (l ++ rest)) (sym is);
  short = omega (arith, h.short);
  appends = Appends-trans old now new _ _ g.appends h.appends;
}

-- nothing of it was written before
pub held_stops : (old new : Option (List ℕ)) (held left rest : List ℕ) → left ≡ held → AppendsBeginning old new held → AppendsIntoHeld old new left (held ++ rest)
held_stops old new held left rest is h = stopped old old new held left held rest is (record { sent = []; whole = refl; appends = Appends-nil old }) h

-- more text was put: some of what was held and of it was written
pub put_on : (old now new : Option (List ℕ)) (held held' text more : List ℕ) → AppendsAllButHeld old now held text → AppendsAllButHeld now new held' (held ++ more) → AppendsAllButHeld old new held' (text ++ more)
put_on old now new held held' text more g h = record {
  sent = g.sent ++ h.sent;
  whole = ap (λ l. l ++ more) g.whole ∙ append_assoc g.sent held more ∙ ap (λ l. g.sent ++ l) h.whole ∙ sym (append_assoc g.sent h.sent held');
  appends = Appends-trans old now new _ _ g.appends h.appends;
}

-- more text was put, and a beginning of what was held and of it was written
pub put_fails : (old now new : Option (List ℕ)) (held text more : List ℕ) → AppendsAllButHeld old now held text → AppendsBeginning now new (held ++ more) → AppendsBeginning old new (text ++ more)
put_fails old now new held text more g h = record {
  sent = g.sent ++ h.sent;
  unsent = h.unsent;
  whole = ap (λ l. l ++ more) g.whole ∙ append_assoc g.sent held more ∙ ap (λ l. g.sent ++ l) h.whole ∙ sym (append_assoc g.sent h.sent h.unsent);
  short = h.short;
  appends = Appends-trans old now new _ _ g.appends h.appends;
}

-- some text was put, and then more text
pub then_put : (old now new : Option (List ℕ)) (held held' text first rest : List ℕ) → AppendsAllButHeld old now held (text ++ first) → AppendsAllButHeld now new held' (held ++ rest) → AppendsAllButHeld old new held' (text ++ (first ++ rest))
then_put old now new held held' text first rest g h =
    subst (λ (l : List ℕ). AppendsAllButHeld old new held' l) (append_assoc text first rest) (put_on old now new held held' (text ++ first) rest g h)

pub then_stops : (old now new : Option (List ℕ)) (held held' text first rest : List ℕ) → AppendsAllButHeld old now held (text ++ first) → AppendsIntoHeld now new held' (held ++ rest) → AppendsIntoHeld old new held' (text ++ (first ++ rest))
then_stops old now new held held' text first rest g h = record {
  before = g.sent ++ h.before;
  begun = h.begun;
  unsent = h.unsent;
  behind = h.behind;
  holds = h.holds;
  whole = sym (append_assoc text first rest) ∙ ap (λ l. l ++ rest) g.whole ∙ append_assoc g.sent held rest ∙ ap (λ l. g.sent ++ l) h.whole ∙ sym (append_assoc g.sent h.before (held' ++ h.behind));
  short = h.short;
  appends = subst (λ (l : List ℕ). Appends old new l) (sym (append_assoc g.sent h.before h.begun)) (Appends-trans old now new _ _ g.appends h.appends);
}

-- a beginning of a text is one of a longer text
pub of_longer : (old new : Option (List ℕ)) (text rest : List ℕ) → AppendsBeginning old new text → AppendsBeginning old new (text ++ rest)
of_longer old new text rest h = record {
  sent = h.sent;
  unsent = h.unsent ++ rest;
  whole = ap (λ l. l ++ rest) h.whole ∙ append_assoc h.sent h.unsent rest;
  short = omega (arith, h.short, length-append h.unsent rest);
  appends = h.appends;
}

pub first_stops : (old new : Option (List ℕ)) (held text first rest : List ℕ) → AppendsIntoHeld old new held (text ++ first) → AppendsIntoHeld old new held (text ++ (first ++ rest))
first_stops old new held text first rest h = record {
  before = h.before;
  begun = h.begun;
  unsent = h.unsent;
  behind = h.behind ++ rest;
  holds = h.holds;
  whole = sym (append_assoc text first rest) ∙ ap (λ l. l ++ rest) h.whole ∙ simp append_assoc;
  short = omega (arith, h.short, length-append h.behind rest);
  appends = h.appends;
}

-- what was held was written, and then of more text a beginning
pub rest_stops : (old now new : Option (List ℕ)) (held left rest : List ℕ) → left ≡ [] → Appends old now held → AppendsBeginning now new rest → AppendsIntoHeld old new left (held ++ rest)
rest_stops old now new held left rest is g h = record {
  before = held ++ h.sent;
  begun = [];
  unsent = [];
  behind = h.unsent;
  holds = is;
  whole = ap (λ l. held ++ l) h.whole ∙ sym (append_assoc held h.sent h.unsent) ∙ ap (λ l. (held ++ h.sent) ++ (l ++ h.unsent)) (sym is);
  short = omega (arith, h.short);
  appends = subst (λ (l : List ℕ). Appends old new l) (sym (append-nil (held ++ h.sent))) (Appends-trans old now new _ _ g h.appends);
}

-- what was held is written in part
pub flush_fails : (old now new : Option (List ℕ)) (held text : List ℕ) → AppendsAllButHeld old now held text → AppendsBeginning now new held → AppendsBeginning old new text
flush_fails old now new held text g h = subst (λ (l : List ℕ). AppendsBeginning old new l) (append-nil text) (begun old new held (text ++ []) (stopped old now new held held text [] refl g h))

-- the lines up to i, and those from i on
pub lines_split : {X : Type 0} (f : X → List ℕ) (xs : List X) (i : ℕ) → flat_map f xs ≡ flat_map f (take i xs) ++ flat_map f (drop i xs)
lines_split f xs i = ap (flat_map f) (sym (take-append-drop i xs)) ∙ flat_map-append f (take i xs) (drop i xs)

pub on_err : {T E P : Type 0} (r : Result T E) → P → OnErr r P
on_err (Ok x) p = tt
on_err (Err e) p = p
