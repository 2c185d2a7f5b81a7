use Rattle.std.proofs.Common.{◌≡◌, ◌+◌, ◌∙◌, ℕ, List, [], ◌∷◌, ◌++◌, false, map, replicate, length, vec_len, ap, arith, rules, Vec, Global}
use Rattle.std.proofs.lemmas.List.{map-append, length-map, length-append}
use Rattle.vt_seq.specs.declared.entry.Entry.{Entry}
use Rattle.vt_seq.specs.inside.Days.{entries_of_days}
use Rattle.vt_seq.proofs.CalendarLemmas.{days-more, empty-marks}
use Rattle.vt_seq.proofs.days.Days.new.Goals as goal

pub loop-preserved : goal.loop-preserved
loop-preserved g c =
    let xs : List (Vec (Entry _) Global) = c.loop.days.items in
    let v : Vec (Entry _) Global = c.new.result in
    let pushed : c.push.new.self.items ≡ xs ++ v ∷ [] = search rules in
    let longer : length (xs ++ v ∷ []) ≡ length xs + 1 = length-append xs (v ∷ []) in
    record {
      empty = ap (λ (l : List (Vec (Entry _) Global)). entries_of_days (map (λ (v : Vec (Entry _) Global). v.items) l)) pushed ∙ ap entries_of_days (map-append (λ (v : Vec (Entry _) Global). v.items) xs (v ∷ []))
          ∙ ap (λ (l : List (Entry _)). entries_of_days (map (λ (v : Vec (Entry _) Global). v.items) xs ++ l ∷ [])) c.new.ensures.items ∙ days-more (map (λ (v : Vec (Entry _) Global). v.items) xs) c.loop.invariant.empty;
      len = ap length pushed ∙ longer ∙ ap (λ (n : ℕ). n + 1) c.loop.invariant.len;
    }

pub invariant_of-result : goal.invariant_of-result
invariant_of-result g c =
    let xs : List (Vec (Entry _) Global) = c.loop.days.items in
    let made : c.in-Ok-new.marks ≡ replicate 1024 false = search rules in
    let count-is : vec_len c.loop.days ≡ 1024 = omega (arith, c.loop.days.ok.0, c.loop.invariant.len, c.loop-test.false, c.loop.auto.counter-end) in
    let count : 1024 ≡ length (map (λ (v : Vec (Entry _) Global). v.items) xs) = let same : length (map (λ (v : Vec (Entry _) Global). v.items) xs) ≡ length xs = length-map xs (λ (v : Vec (Entry _) Global). v.items) in omega (arith, same, c.loop.days.ok.0, count-is) in
    (made ∙ ap (λ (n : ℕ). replicate n false) count ∙ empty-marks (map (λ (v : Vec (Entry _) Global). v.items) xs) c.loop.invariant.empty, (λ clear. c.loop.invariant.empty), count-is)
