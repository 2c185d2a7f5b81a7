-- Trails. These words are for the proof that the links are right, and no public clause has them but the first two.
use Rattle.std.specs.Prelude.{◌≡◌, ℕ, Bool, true, List, [], ◌∷◌, length, slice_get, Option, Some, None}
use denote.RawPtr.{Ptr}
use Rattle.vt_nodes.specs.inside.Linked.{NodeAt, first_or, LeadOn}

-- the first item of the first list
abbrev pub first_item : {X : Type 0} → List (List X) → Option X
first_item [] = None
first_item (line ∷ lines) = slice_get line 0

-- whether the list begins with an item that passes; a list without items, which is never among trails, counts too
abbrev pub begins_with : {X : Type 0} → (X → Bool) → List X → Bool
begins_with test [] = true
begins_with test (x ∷ xs) = test x

module _ {X : Type 0} where
  -- a node before some lists: it begins the first of them if it leads on to a node, and else it is a list of its own
  abbrev pub put_before : Option Ptr → NodeAt X → List (List (NodeAt X)) → List (List (NodeAt X))
  put_before None b ls = (b ∷ []) ∷ ls
  put_before (Some p) b [] = (b ∷ []) ∷ []
  put_before (Some p) b (l ∷ ls) = (b ∷ l) ∷ ls

  -- the nodes as lists, which end where a node leads on to nothing
  abbrev pub lines_of : List (NodeAt X) → List (List (NodeAt X))
  lines_of [] = []
  lines_of (b ∷ bs) = put_before b.1.next b (lines_of bs)

  -- how many nodes the first list has
  abbrev pub first_length : List (List (NodeAt X)) → ℕ
  first_length [] = 0
  first_length (l ∷ ls) = length l

  -- where the first node of the first list lies, or `after` where there is none
  abbrev pub trails_head : Option Ptr → List (List (NodeAt X)) → Option Ptr
  trails_head after [] = after
  trails_head after (l ∷ ls) = first_or None l

  -- the first node leads back to `before`
  abbrev pub LeadsBack : Option Ptr → List (NodeAt X) → Type 0
  LeadsBack before [] = Unit {0}
  LeadsBack before (b ∷ bs) = b.1.prev ≡ before

  -- each list leads on to its end, and its first node leads back to the first node of the next list, or to `after`
  abbrev pub AreTrails : Option Ptr → List (List (NodeAt X)) → Type 0
  AreTrails after [] = Unit {0}
  AreTrails after (l ∷ ls) = LeadOn l None × LeadsBack (trails_head after ls) l × AreTrails after ls

  -- the nodes of some trails, of which the last one stands apart, from head up to `next`. The last one begins at `last`
  pub record ArePassed (head last next : Option Ptr) (before line : List (NodeAt X)) : Type 0 where
    pub head_is : head ≡ first_or (first_or next line) before
    pub last_is : last ≡ first_or None line
    pub stand : AreTrails last (lines_of before)
    pub on : LeadOn line None
    pub back : LeadsBack next line
    pub none : line ≡ [] → before ≡ []
