-- Nodes that are linked, both ways or one way. These words are for the proof that the links are right, and no public clause has them.
use Rattle.std.specs.Prelude.{◌≡◌, List, [], ◌∷◌, ◌++◌, map, Option, Some, None}
use denote.RawPtr.{Ptr}
use Rattle.vt_nodes.specs.declared.node.Node.{Node}

-- a node and where it lies
abbrev pub NodeAt : Type 0 → Type 0
NodeAt X = Ptr × Node X

-- where the first one lies, or `after` where there is none
abbrev pub first_or : {Y : Type 0} → Option Ptr → List (Ptr × Y) → Option Ptr
first_or after [] = after
first_or after (b ∷ bs) = Some b.0

-- where the last one lies, or `before` where there is none
abbrev pub last_or : {Y : Type 0} → Option Ptr → List (Ptr × Y) → Option Ptr
last_or before [] = before
last_or before (b ∷ bs) = last_or (Some b.0) bs

-- a position in a list, given as the items that were passed and those ahead, moved on by one item if there is one
abbrev pub advanced : {X : Type 0} → List X × List X → List X × List X
advanced (passed, []) = (passed, [])
advanced (passed, x ∷ ahead) = (passed ++ x ∷ [], ahead)

module _ {X : Type 0} where
  -- the items of nodes
  abbrev pub items : List (NodeAt X) → List X
  items = map (λ b. b.1.item)

  -- the nodes, where the last one leads on to `after`
  abbrev pub with_next : Option Ptr → List (NodeAt X) → List (NodeAt X)
  with_next after [] = []
  with_next after (b ∷ []) = (b.0, record b.1 { next = after }) ∷ []
  with_next after (b ∷ c ∷ bs) = b ∷ with_next after (c ∷ bs)

  -- the nodes, where the first one leads back to `before`
  abbrev pub with_prev : Option Ptr → List (NodeAt X) → List (NodeAt X)
  with_prev before [] = []
  with_prev before (b ∷ bs) = (b.0, record b.1 { prev = before }) ∷ bs

  -- each node leads on to the next one, and the last one to `after`
  abbrev pub LeadOn : List (NodeAt X) → Option Ptr → Type 0
  LeadOn [] after = Unit {0}
  LeadOn (b ∷ bs) after = (b.1.next ≡ first_or after bs) × LeadOn bs after

  -- each node leads back to the one before, and the first one to `before`
  abbrev pub LeadBack : Option Ptr → List (NodeAt X) → Type 0
  LeadBack before [] = Unit {0}
  LeadBack before (b ∷ bs) = (b.1.prev ≡ before) × LeadBack (Some b.0) bs

  -- the nodes are linked both ways, from head to tail
  pub record IsChain (head tail : Option Ptr) (bs : List (NodeAt X)) : Type 0 where
    pub head_is : head ≡ first_or None bs
    pub tail_is : tail ≡ last_or None bs
    pub on : LeadOn bs None
    pub back : LeadBack None bs

  -- the nodes lead on one way from head to last, and the last one to `next`, where what follows begins
  pub record IsBeginning (head last next : Option Ptr) (bs : List (NodeAt X)) : Type 0 where
    pub head_is : head ≡ first_or next bs
    pub last_is : last ≡ last_or None bs
    pub on : LeadOn bs next

  -- the nodes lead on to their end, and a position among them is after `last` and before `next`
  pub record IsPosition (last next : Option Ptr) (passed ahead : List (NodeAt X)) : Type 0 where
    pub on : LeadOn (passed ++ ahead) None
    pub last_is : last ≡ last_or None passed
    pub next_is : next ≡ first_or None ahead
