-- Letters in 64 lists, by their ticks modulo 64.
use Rattle.std.specs.Prelude.{◌≡◌, ◌≢◌, ℕ, ◌%◌, ◌<◌, ◌↔◌, Bool, false, not, ◌||◌, nat_eq, IsBitSet, List, [], ◌∷◌, filter, find, slice_get, Option, None, Some, if◌then◌else◌}
use Rattle.vt_key.specs.promise.Order.{rank_before}
use Rattle.vt_key.specs.promise.Times.{ticks_of}
use Rattle.vt_key.specs.promise.Queues.{letter_rank, insert_letter}
use Rattle.vt_key.specs.inside.Queues.{IsRising}
use Rattle.vt_key.specs.declared.order.Rank.{Rank}
use Rattle.vt_key.specs.declared.letter.Letter.{Letter}
use Rattle.vt_pending.specs.inside.Letters.{reached_has}

-- the number of the list where letters of this rank are
abbrev pub bucket_of : Rank → ℕ
bucket_of rank = ticks_of rank.key.time % 64

module _ {P : Type 0} where
  -- the letter belongs in list b
  abbrev pub in_bucket : ℕ → Letter P → Bool
  in_bucket b letter = nat_eq (bucket_of (letter_rank letter)) b

  -- the letter belongs in another list
  abbrev pub not_in_bucket : ℕ → Letter P → Bool
  not_in_bucket b letter = not (in_bucket b letter)

  -- there is a letter, and it belongs in list b
  abbrev pub some_in_bucket : ℕ → Option (Letter P) → Bool
  some_in_bucket b None = false
  some_in_bucket b (Some letter) = in_bucket b letter

  -- list b of some lists: the one whose first letter belongs there, or none
  abbrev pub list_at : ℕ → List (List (Letter P)) → List (Letter P)
  list_at b [] = []
  list_at b (list ∷ lists) = if some_in_bucket b (slice_get list 0) then list else list_at b lists

  -- the lists without list b
  abbrev pub without_list : ℕ → List (List (Letter P)) → List (List (Letter P))
  without_list b [] = []
  without_list b (list ∷ lists) = if some_in_bucket b (slice_get list 0) then lists else list ∷ without_list b lists

  -- there are two letters, and the first is before the second
  abbrev pub both_before : Option (Letter P) → Option (Letter P) → Bool
  both_before None other = false
  both_before (Some letter) None = false
  both_before (Some letter) (Some other) = rank_before (letter_rank letter) (letter_rank other)

  -- the letter of lesser rank, of those that are there
  abbrev pub lesser : Option (Letter P) → Option (Letter P) → Option (Letter P)
  lesser None other = other
  lesser (Some letter) None = Some letter
  lesser (Some letter) (Some other) = if rank_before (letter_rank other) (letter_rank letter) then Some other else Some letter

  -- the letter of lesser rank: the one found so far, or the least in some lists that passes a test. The search ends at
  -- the first list that begins behind what is found
  abbrev pub least_from : (Letter P → Bool) → Option (Letter P) → List (List (Letter P)) → Option (Letter P)
  least_from test found [] = found
  least_from test found (list ∷ lists) = if both_before found (slice_get list 0) then found else least_from test (lesser found (find test list)) lists

  -- the letter belongs in the list of this rank, or isn't before this rank
  abbrev pub own_or_not_before : Rank → Letter P → Bool
  own_or_not_before rank letter = in_bucket (bucket_of rank) letter || not (rank_before letter.event.rank rank)

  -- the first list is list b, and its first letter that isn't before the rank has it
  abbrev pub first_holds : ℕ → Rank → List (List (Letter P)) → Bool
  first_holds b rank [] = false
  first_holds b rank (list ∷ lists) = if some_in_bucket b (slice_get list 0) then reached_has rank list else false

  -- the lists with one letter more in list b, which then is the first one. If it wasn't, the letter is the first of its list
  abbrev pub insert_here : ℕ → Letter P → List (List (Letter P)) → List (List (Letter P))
  insert_here b letter [] = (letter ∷ []) ∷ []
  insert_here b letter (list ∷ lists) = if some_in_bucket b (slice_get list 0) then insert_letter letter list ∷ lists else (letter ∷ list_at b lists) ∷ list ∷ without_list b lists

  -- the lists with one letter more in list b, which then stands behind the lists whose first letters are before its first one
  abbrev pub insert_in : ℕ → Letter P → List (List (Letter P)) → List (List (Letter P))
  insert_in b letter [] = (letter ∷ []) ∷ []
  insert_in b letter (list ∷ lists) =
      if some_in_bucket b (slice_get list 0) then insert_letter letter list ∷ lists
      else if both_before (slice_get list 0) (Some letter) then list ∷ insert_in b letter lists
      else (letter ∷ list_at b lists) ∷ list ∷ without_list b lists

  -- the lists with one more, behind those whose first letters are before its first one
  abbrev pub put_list : List (Letter P) → List (List (Letter P)) → List (List (Letter P))
  put_list list [] = list ∷ []
  put_list list (other ∷ lists) = if both_before (slice_get other 0) (slice_get list 0) then other ∷ put_list list lists else list ∷ other ∷ lists

  -- the lists with one more, unless that one is empty
  abbrev pub put_some : List (Letter P) → List (List (Letter P)) → List (List (Letter P))
  put_some [] lists = lists
  put_some (letter ∷ letters) lists = put_list (letter ∷ letters) lists

  -- the letters of the lists in rising rank
  abbrev pub merged : List (Letter P) → List (Letter P) → List (Letter P)
  merged [] others = others
  merged (letter ∷ letters) others = insert_letter letter (merged letters others)

  abbrev pub letters_of : List (List (Letter P)) → List (Letter P)
  letters_of [] = []
  letters_of (list ∷ lists) = merged list (letters_of lists)

  -- the lists of letters that aren't empty stand in the order of their first letters
  abbrev pub AreLists : List (List (Letter P)) → List (Letter P) → Type 0
  AreLists [] [] = Unit {0}
  AreLists [] (letter ∷ letters) = ⊥
  AreLists (list ∷ lists) [] = ⊥
  AreLists (list ∷ lists) (letter ∷ letters) =
      let b = bucket_of (letter_rank letter) in
      (list ≡ letter ∷ filter (in_bucket b) letters) × AreLists lists (filter (not_in_bucket b) letters)

  -- a queue with these letters: list b has those with tick b modulo 64 in rising rank, and bit b of the word says that it isn't
  -- empty
  pub record Buckets (mask : ℕ) (lists : List (List (Letter P))) (letters : List (Letter P)) : Type 0 where
    pub rising : IsRising letters
    pub list : (b : ℕ) → b < 64 → list_at b lists ≡ filter (in_bucket b) letters
    pub bit : (b : ℕ) → b < 64 → IsBitSet mask b ↔ (list_at b lists ≢ [])
    pub listed : AreLists lists letters
