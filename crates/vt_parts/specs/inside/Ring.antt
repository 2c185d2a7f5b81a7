-- What a ring's calls do.
use Rattle.std.specs.Prelude.{◌≡◌, ℕ, ◌+◌, ◌-◌, ◌<◌, ◌≤◌, List, ◌++◌, length, replicate, take, drop, slice_get, slice_set, Bool, nat_lt, nat_le, nat_eq, if◌then◌else◌, Option, Some, None}
use Rattle.vt_parts.specs.declared.ring.Ring.{Ring}

-- the index that is so many behind another, round the end of n slots
abbrev pub round : ℕ → ℕ → ℕ → ℕ
round n head behind = if nat_lt behind (n - head) then head + behind else behind - (n - head)

module _ {T : Type 0} {N : ℕ} where
  -- a ring has its slots, and its numbers are in range
  pub record IsRing (r : Ring T N) : Type 0 where
    pub slots : length r.items ≡ N
    pub head : r.head < N
    pub len : r.len ≤ N

  -- the items, the first one first
  abbrev pub held : Ring T N → List T
  held r = take r.len (drop r.head r.items ++ take r.head r.items)

  -- how many items there are
  abbrev pub item_count : Ring T N → ℕ
  item_count r = r.len

  -- an empty ring
  abbrev pub empty_ring : T → Ring T N
  empty_ring blank = record { items = replicate N blank; head = 0; len = 0 }

  -- the index that is so many behind the first
  abbrev pub index : Ring T N → ℕ → ℕ
  index r behind = round N r.head behind

  -- with an item at this index
  abbrev pub written : Ring T N → ℕ → T → Ring T N
  written r at item = record r { items = slice_set r.items at item }

  -- whether there is no item
  abbrev pub is_empty : Ring T N → Bool
  is_empty r = nat_eq r.len 0

  -- whether there is no room
  abbrev pub is_full : Ring T N → Bool
  is_full r = nat_le N r.len

  -- with an item behind the others, if there is room
  abbrev pub pushed : Ring T N → T → Ring T N
  pushed r item = if is_full r then r else record r { items = slice_set r.items (index r r.len) item; len = r.len + 1 }

  -- what stood in the item's slot, if there was room
  abbrev pub push_answer : Ring T N → Option T
  push_answer r = if is_full r then None else slice_get r.items (index r r.len)

  -- without the last item and with what had stood in its slot, if there was room for that item
  abbrev pub unpushed : Ring T N → Option T → Ring T N
  unpushed r None = r
  unpushed r (Some before) = record r { items = slice_set r.items (index r (r.len - 1)) before; len = r.len - 1 }

  -- the first item, if there is one
  abbrev pub first : Ring T N → Option T
  first r = if is_empty r then None else slice_get r.items r.head

  -- without the first item, if there was one
  abbrev pub popped : Ring T N → Ring T N
  popped r = if is_empty r then r else record r { head = index r 1; len = r.len - 1 }

  -- with one more in the slot before the first, if there is room
  abbrev pub with_front : Ring T N → Ring T N
  with_front r = if is_full r then r else record r { head = index r (N - 1); len = r.len + 1 }

  -- with the item before the first one, if it was taken out
  abbrev pub unpopped : Ring T N → Option T → Ring T N
  unpopped r None = r
  unpopped r (Some item) = with_front r
