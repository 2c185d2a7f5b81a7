-- What holds of segments with which nothing is wrong.
use Rattle.std.proofs.Common.{◌≡◌, ℕ, ◌+◌, ◌-◌, ◌^◌, ◌<◌, ◌≤◌, ◌&&◌, ◌⊎◌, Bool, true, false, not, cond, max, length, List, [], ◌∷◌, Option, Some, None, refl, sym, ap, subst, ◌∙◌, ⊎_elim, inl, inr, arith}
use Rattle.std.proofs.lemmas.Bool.{and_parts, not-true, leb-true}
use Rattle.std.proofs.Math.Nat.{le-max_left, le-max_right, max-le}
use Rattle.std.specs.List.{AllByRecursion}
use Rattle.std.specs.Option.{option_or}
use Rattle.vt_elf.specs.declared.refusal.Refusal.{Refusal}
use Rattle.vt_elf.specs.declared.segment.Segment.{Segment}
use Rattle.vt_elf.specs.declared.segment.Region.{Region}
use Rattle.vt_elf.specs.declared.segment.Region.TheVariants.{Code, Constants, State}
use Rattle.vt_elf.specs.declared.segment.TheConstants.{IMAGE, STATE, MAX_CODE, MAX_IMAGE, MAX_STATE}
use Rattle.vt_elf.specs.promise.Segments.{unless, base_of, limit_of, is_executable, is_writable, region_of, is_in, region_fault, segment_fault, segments_fault, end_of, reach, code_end, image_end, state_end}
use Rattle.vt_elf.specs.inside.Parts.{AreParts}
use Rattle.vt_elf.specs.inside.Segments.{IsApart}

-- the segment lies in its region, whole in a file of so many bytes
pub record IsSound (size : ℕ) (s : Segment) : Type 0 where
  pub access : (is_writable s && is_executable s) ≡ false
  pub shorter : s.file_size ≤ s.memory_size
  pub in_file : s.offset + s.file_size ≤ size
  pub from : base_of (region_of s) ≤ s.address
  pub to : end_of s ≤ base_of (region_of s) + limit_of (region_of s)

-- is_in, by what the segment's access is
abbrev pub in_by : Region → Bool → Bool → Bool
in_by Code w x = x
in_by Constants w x = not x && not w
in_by State w x = w

pub unless_none : (kept : Bool) (refusal : Refusal) (next : Option Refusal) → unless kept refusal next ≡ None → (kept ≡ true) × (next ≡ None)
unless_none true refusal next e = (refl, e)
unless_none false refusal next e = cc

pub or_none : (a b : Option Refusal) → option_or a b ≡ None → (a ≡ None) × (b ≡ None)
or_none None b e = (refl, e)
or_none (Some r) b e = cc

pub region_sound : (code : Bool) (s : Segment) → region_fault code s ≡ None → (base_of (region_of s) ≤ s.address) × (end_of s ≤ base_of (region_of s) + limit_of (region_of s))
region_sound code s e =
    let begins = unless_none _ _ _ e in
    let ends = unless_none _ _ _ begins.1 in
    let placed = and_parts _ _ (and_parts _ _ begins.0).0 in
    (leb-true _ _ placed.0, leb-true _ _ ends.0)

pub segment_sound : (size before : ℕ) (code : Bool) (s : Segment) → segment_fault size before code s ≡ None → IsSound size s
segment_sound size before code s e =
    let access = unless_none _ _ _ e in
    let whole = unless_none _ _ _ access.1 in
    let order = unless_none _ _ _ whole.1 in
    let sizes = and_parts _ _ whole.0 in
    let region = region_sound code s order.1 in
    record { access = not-true _ access.0; shorter = leb-true _ _ sizes.0; in_file = leb-true _ _ sizes.1; from = region.0; to = region.1 }

pub segments_sound : (size before : ℕ) (code : Bool) (ss : List Segment) → segments_fault size before code ss ≡ None → AllByRecursion (IsSound size) ss
segments_sound size before code [] e = tt
segments_sound size before code (s ∷ ss) e =
    let parts = or_none _ _ e in
    (segment_sound size before code s parts.0, segments_sound size (end_of s) (code && is_executable s) ss parts.1)

-- which region a segment is in
pub by_access : (r : Region) (w x : Bool) → (w && x) ≡ false → in_by r w x ≡ true → cond w State (cond x Code Constants) ≡ r
by_access Code true x apart e = cc
by_access Code false x apart e = rw e refl
by_access Constants w true apart e = cc
by_access Constants true false apart e = cc
by_access Constants false false apart e = refl
by_access State true x apart e = refl
by_access State false x apart e = cc

pub region_is : (r : Region) (s : Segment) → (is_writable s && is_executable s) ≡ false → is_in r s ≡ true → region_of s ≡ r
region_is Code s apart e = by_access Code (is_writable s) (is_executable s) apart e
region_is Constants s apart e = by_access Constants (is_writable s) (is_executable s) apart e
region_is State s apart e = by_access State (is_writable s) (is_executable s) apart e

pub some_access : (w x : Bool) → (in_by Code w x ≡ true) ⊎ ((in_by Constants w x ≡ true) ⊎ (in_by State w x ≡ true))
some_access w true = inl refl
some_access true false = inr (inr refl)
some_access false false = inr (inl refl)

pub some_region : (s : Segment) → (is_in Code s ≡ true) ⊎ ((is_in Constants s ≡ true) ⊎ (is_in State s ≡ true))
some_region s = some_access (is_writable s) (is_executable s)

-- where a sound segment of a region lies
pub begins_in : (r : Region) {size : ℕ} (s : Segment) → IsSound size s → is_in r s ≡ true → base_of r ≤ s.address
begins_in r s sound e = subst (λ r. base_of r ≤ s.address) (region_is r s sound.access e) sound.from

pub ends_in : (r : Region) {size : ℕ} (s : Segment) → IsSound size s → is_in r s ≡ true → end_of s ≤ base_of r + limit_of r
ends_in r s sound e = subst (λ r. end_of s ≤ base_of r + limit_of r) (region_is r s sound.access e) sound.to

-- the segments of a region end at or below a bound
abbrev pub EndBelow : Region → ℕ → Segment → Type 0
EndBelow r bound s = is_in r s ≡ true → end_of s ≤ bound

pub sound_ends : (r : Region) (size : ℕ) (ss : List Segment) → AllByRecursion (IsSound size) ss → AllByRecursion (EndBelow r (base_of r + limit_of r)) ss
sound_ends r size [] all = tt
sound_ends r size (s ∷ ss) all = (ends_in r s all.0, sound_ends r size ss all.1)

pub wider : (b : Bool) (least end : ℕ) → least ≤ cond b (max least end) least
wider true least end = le-max_left least end
wider false least end = omega arith

pub wide_enough : (b : Bool) (least end : ℕ) → b ≡ true → end ≤ cond b (max least end) least
wide_enough true least end e = le-max_right least end
wide_enough false least end e = cc

pub not_wider : (b : Bool) (least end bound : ℕ) → least ≤ bound → (b ≡ true → end ≤ bound) → cond b (max least end) least ≤ bound
not_wider true least end bound h f = max-le h (f refl)
not_wider false least end bound h f = h

pub least_reach : (r : Region) (least : ℕ) (ss : List Segment) → least ≤ reach r least ss
least_reach r least [] = omega arith
least_reach r least (s ∷ ss) = omega (arith, wider (is_in r s) least (end_of s), least_reach r (cond (is_in r s) (max least (end_of s)) least) ss)

pub reach_within : (r : Region) (least bound : ℕ) (ss : List Segment) → AllByRecursion (EndBelow r bound) ss → least ≤ bound → reach r least ss ≤ bound
reach_within r least bound [] all low = low
reach_within r least bound (s ∷ ss) all low = reach_within r (cond (is_in r s) (max least (end_of s)) least) bound ss all.1 (not_wider (is_in r s) least (end_of s) bound low all.0)

pub ends_within : (r : Region) (least bound : ℕ) (ss : List Segment) → reach r least ss ≤ bound → AllByRecursion (EndBelow r bound) ss
ends_within r least bound [] h = tt
ends_within r least bound (s ∷ ss) h =
    let next = cond (is_in r s) (max least (end_of s)) least in
    let here : is_in r s ≡ true → end_of s ≤ bound = λ e. omega (arith, wide_enough (is_in r s) least (end_of s) e, least_reach r next ss, h) in
    (here, ends_within r next bound ss h)

-- no sound segment crosses a border of the image or of the state
pub apart_of_image : (file : List ℕ) (bound : ℕ) (s : Segment) → IsSound (length file) s → bound ≤ STATE → EndBelow Code bound s → EndBelow Constants bound s → IsApart file IMAGE bound s
apart_of_image file bound s sound low code constants =
    let outside : is_in State s ≡ true → IsApart file IMAGE bound s = λ e.
    let from : STATE ≤ s.address = begins_in State s sound e in
    record { in_file = sound.in_file; below = λ h. absurd (omega arith); inside = λ f t. absurd (omega arith) } in
    let within : IMAGE ≤ s.address → end_of s ≤ bound → IsApart file IMAGE bound s = λ from to.
    let shorter : s.file_size ≤ s.memory_size = sound.shorter in
    record { in_file = sound.in_file; below = λ h. absurd (omega arith); inside = λ f t. omega arith } in
    ⊎_elim
    (λ (e : is_in Code s ≡ true). within (begins_in Code s sound e) (code e))
    (λ (rest : (is_in Constants s ≡ true) ⊎ (is_in State s ≡ true)). ⊎_elim (λ (e : is_in Constants s ≡ true). within (begins_in Constants s sound e) (constants e)) outside rest)
    (some_region s)

pub image_apart : (file : List ℕ) (bound : ℕ) (ss : List Segment) → AllByRecursion (IsSound (length file)) ss → bound ≤ STATE → AllByRecursion (EndBelow Code bound) ss → AllByRecursion (EndBelow Constants bound) ss → AllByRecursion (IsApart file IMAGE bound) ss
image_apart file bound [] sound low code constants = tt
image_apart file bound (s ∷ ss) sound low code constants = (apart_of_image file bound s sound.0 low code.0 constants.0, image_apart file bound ss sound.1 low code.1 constants.1)

pub apart_of_state : (file : List ℕ) (bound : ℕ) (s : Segment) → IsSound (length file) s → EndBelow State bound s → IsApart file STATE bound s
apart_of_state file bound s sound state =
    let shorter : s.file_size ≤ s.memory_size = sound.shorter in
    let outside : end_of s ≤ STATE → IsApart file STATE bound s = λ to.
    record { in_file = sound.in_file; below = λ h. omega arith; inside = λ f t. omega arith } in
    let within : is_in State s ≡ true → IsApart file STATE bound s = λ e.
    let from : STATE ≤ s.address = begins_in State s sound e in
    let to : end_of s ≤ bound = state e in
    record { in_file = sound.in_file; below = λ h. absurd (omega arith); inside = λ f t. omega arith } in
    ⊎_elim
    (λ (e : is_in Code s ≡ true). outside (omega (arith, ends_in Code s sound e)))
    (λ (rest : (is_in Constants s ≡ true) ⊎ (is_in State s ≡ true)). ⊎_elim (λ (e : is_in Constants s ≡ true). outside (omega (arith, ends_in Constants s sound e))) within rest)
    (some_region s)

pub state_apart : (file : List ℕ) (bound : ℕ) (ss : List Segment) → AllByRecursion (IsSound (length file)) ss → AllByRecursion (EndBelow State bound) ss → AllByRecursion (IsApart file STATE bound) ss
state_apart file bound [] sound state = tt
state_apart file bound (s ∷ ss) sound state = (apart_of_state file bound s sound.0 state.0, state_apart file bound ss sound.1 state.1)

-- the ends of sound segments are numbers of 64 bits
pub end_fits : {size : ℕ} (s : Segment) → IsSound size s → end_of s < 2 ^ 64
end_fits s sound =
    ⊎_elim
    (λ (e : is_in Code s ≡ true). omega (arith, ends_in Code s sound e))
    (λ (rest : (is_in Constants s ≡ true) ⊎ (is_in State s ≡ true)). ⊎_elim (λ (e : is_in Constants s ≡ true). omega (arith, ends_in Constants s sound e)) (λ (e : is_in State s ≡ true). omega (arith, ends_in State s sound e)) rest)
    (some_region s)

pub ends_fit : (size : ℕ) (ss : List Segment) → AllByRecursion (IsSound size) ss → AllByRecursion (λ s. end_of s < 2 ^ 64) ss
ends_fit size [] all = tt
ends_fit size (s ∷ ss) all = (end_fits s all.0, ends_fit size ss all.1)

-- the ends of code, image and state of sound segments
pub code_ends : (size : ℕ) (ss : List Segment) → AllByRecursion (IsSound size) ss → code_end ss ≤ IMAGE + MAX_CODE
code_ends size ss all = reach_within Code IMAGE (IMAGE + MAX_CODE) ss (sound_ends Code size ss all) (omega arith)

pub image_ends : (size : ℕ) (ss : List Segment) → AllByRecursion (IsSound size) ss → image_end ss ≤ IMAGE + MAX_IMAGE
image_ends size ss all = reach_within Constants (code_end ss) (IMAGE + MAX_IMAGE) ss (sound_ends Constants size ss all) (omega (arith, code_ends size ss all))

pub state_ends : (size : ℕ) (ss : List Segment) → AllByRecursion (IsSound size) ss → state_end ss ≤ STATE + MAX_STATE
state_ends size ss all = reach_within State STATE (STATE + MAX_STATE) ss (sound_ends State size ss all) (omega arith)

-- segments that were read and checked
pub read_sound : (file : List ℕ) (ss found : List Segment) (section : ℕ) → ss ≡ found → AreParts file found section → AllByRecursion (IsSound (length file)) ss
read_sound file ss found section same parts = segments_sound (length file) 0 true ss (ap (segments_fault (length file) 0 true) same ∙ parts.sound)

-- no segment that was checked crosses a border of the image, or of the state, that were found
pub apart_in_image : (file : List ℕ) (ss : List Segment) (code image : ℕ) → code ≡ reach Code IMAGE ss → image ≡ reach Constants code ss → AllByRecursion (IsSound (length file)) ss → AllByRecursion (IsApart file IMAGE (IMAGE + (image - IMAGE))) ss
apart_in_image file ss code image first last sound =
    let whole : image ≡ image_end ss = last ∙ ap (λ least. reach Constants least ss) first in
    let from : IMAGE ≤ code = omega (arith, first, least_reach Code IMAGE ss) in
    let above : code ≤ image = omega (arith, last, least_reach Constants code ss) in
    let border : IMAGE + (image - IMAGE) ≡ image = omega arith in
    let low : image ≤ STATE = omega (arith, whole, image_ends (length file) ss sound) in
    let codes : AllByRecursion (EndBelow Code image) ss = ends_within Code IMAGE image ss (omega (arith, first)) in
    let constants : AllByRecursion (EndBelow Constants image) ss = ends_within Constants code image ss (omega (arith, last)) in
    subst (λ bound. AllByRecursion (IsApart file IMAGE bound) ss) (sym border) (image_apart file image ss sound low codes constants)

pub apart_in_state : (file : List ℕ) (ss : List Segment) (state : ℕ) → state ≡ state_end ss → AllByRecursion (IsSound (length file)) ss → AllByRecursion (IsApart file STATE (STATE + (state - STATE))) ss
apart_in_state file ss state last sound =
    let from : STATE ≤ state = omega (arith, last, least_reach State STATE ss) in
    let border : STATE + (state - STATE) ≡ state = omega arith in
    let states : AllByRecursion (EndBelow State state) ss = ends_within State STATE state ss (omega (arith, last)) in
    subst (λ bound. AllByRecursion (IsApart file STATE bound) ss) (sym border) (state_apart file state ss sound states)
