-- The lines of a table, one after the other.
use Rattle.std.proofs.Common.{◌≡◌, ◌<◌, ◌+◌, ◌++◌, ◌∙◌, ℕ, List, [], ◌∷◌, Option, Some, ap, ap₂, sym, subst, length, take, get_or, map}
use Rattle.std.proofs.lemmas.List.{take_more, map-append, length-map, take-map, get_or-map}
use Rattle.std.specs.Borrow.{Bor}
use Rattle.vt_relay.specs.declared.table.TableFault.{TableFault}
use Rattle.vt_relay.specs.declared.table.TableFault.TheVariants.{Memory, NoText, Lines, NoNumber, NoProcess}
use Rattle.vt_relay.specs.inside.Table.{FirstRefused, IsRefusedLine, IsRefusedTable, IsTable, next_said}

abbrev pub now_of : Bor (List ℕ) → List ℕ
now_of text = text.now

module _ (texts : List (Bor (List ℕ))) (i : ℕ) (d : Bor (List ℕ)) (h : i < length texts) where
  texts_more : map now_of (take (i + 1) texts) ≡ map now_of (take i texts) ++ (get_or texts i d).now ∷ []
  texts_more = ap (map now_of) (take_more texts i d h) ∙ map-append now_of (take i texts) (get_or texts i d ∷ [])

  -- one line more
  pub one_more : (count n : ℕ) (table : List ℕ) → next_said count (get_or texts i d).now ≡ Some n → IsTable count (map now_of (take i texts)) table → IsTable count (map now_of (take (i + 1) texts)) (table ++ n ∷ [])
  one_more count n table is before =
      ap (map (next_said count)) texts_more
      ∙ map-append (next_said count) (map now_of (take i texts)) ((get_or texts i d).now ∷ [])
      ∙ ap₂ (λ (l : List (Option ℕ)) (o : Option ℕ). l ++ o ∷ []) before is
      ∙ sym (map-append Some table (n ∷ []))

  -- it names none, and is the first such
  pub first_bad : (table : List ℕ) → IsTable (length texts) (map now_of (take i texts)) table → (fault : TableFault) → IsRefusedLine (length texts) (get_or texts i d).now (i + 1) fault → FirstRefused (map now_of texts) fault
  first_bad table before fault refused =
      let count : length texts ≡ length (map now_of texts) = sym (length-map texts now_of) in
      record {
        index = i;
        table = table;
        before = subst (λ l. IsTable (length (map now_of texts)) l table) (sym (take-map now_of i texts)) (subst (λ n. IsTable n (map now_of (take i texts)) table) count before);
        refused = subst (λ l. IsRefusedLine (length (map now_of texts)) l (i + 1) fault) (sym (get_or-map now_of texts i d [] h)) (subst (λ n. IsRefusedLine n (get_or texts i d).now (i + 1) fault) count refused);
      }

-- so lines are no table
pub refused_so : (said : List (List ℕ)) (fault : TableFault) → FirstRefused said fault → IsRefusedTable said fault
refused_so said Memory h = tt
refused_so said NoText h = h
refused_so said (Lines count) h = h
refused_so said (NoNumber at) h = h
refused_so said (NoProcess at n) h = h
