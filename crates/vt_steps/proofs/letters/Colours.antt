-- Colours of workers and mail: counts by colour, and mail of one colour alone.
use Rattle.std.proofs.Common.{◌≡◌, ℕ, ◌+◌, Bool, true, false, cond, List, [], ◌∷◌, map, length, refl, sym, ◌∙◌, ap, arith, add-zero}
use Rattle.std.specs.List.{sum_by}
use Rattle.std.proofs.lemmas.List.Sums.{sum_by-cons}
use Rattle.vt_key.specs.promise.Letters.{other_colour}
use Rattle.vt_key.specs.promise.Times.{Time}
use Rattle.vt_key.specs.declared.letter.Colour.{Colour}
use Rattle.vt_key.specs.declared.letter.Colour.TheVariants.{White, Red}
use Rattle.vt_key.specs.declared.letter.Letter.{Letter}
use Rattle.vt_key.specs.declared.letter.Mail.{Mail}
use Rattle.vt_steps.specs.inside.Copies.{letter_weight, mail_weight}
use Rattle.vt_steps.specs.promise.Letters.{Counts, count_of, raised, is_colour, count_colour}
use Rattle.vt_steps.specs.promise.World.{Part}
use Rattle.vt_steps.proofs.time.Early.{early, early_letters, early_mail}
use Rattle.vt_steps.proofs.lists.Sums.{sum_by-map, sum_by-zero}

-- how much mail of a colour a worker sent
abbrev pub sent_in : {P : Type 0} → Colour → Part P → ℕ
sent_in colour part = count_of part.sent colour

-- and got
abbrev pub got_in : {P : Type 0} → Colour → Part P → ℕ
got_in colour part = count_of part.got colour

-- how much mail of a colour is before a time
abbrev pub early_coloured : {P : Type 0} → Colour → Time → List (Mail P) → ℕ
early_coloured colour t mails = sum_by (λ mail. cond (is_colour colour mail.colour) (mail_weight (early t) mail) 0) mails

-- letters as mail of a colour
abbrev pub mailed : {P : Type 0} → Colour → Letter P → Mail P
mailed colour letter = record { letter = letter; colour = colour }

-- ---- the two colours

-- the other of the other is the colour itself
pub other-other : (c : Colour) → other_colour (other_colour c) ≡ c
other-other White = refl
other-other Red = refl

-- a colour is not the other one
pub not-other : (c : Colour) → is_colour (other_colour c) c ≡ false
not-other White = refl
not-other Red = refl

-- and the other one is not it
pub other-not : (c : Colour) → is_colour c (other_colour c) ≡ false
other-not White = refl
other-not Red = refl

-- ---- counts by colour

-- a raised count, read by colour
pub count_of-raised : (counts : Counts) (colour own : Colour) (n : ℕ) → count_of (raised counts own n) colour ≡ count_of counts colour + cond (is_colour colour own) n 0
count_of-raised counts White White n = refl
count_of-raised counts Red Red n = refl
count_of-raised counts White Red n = sym (add-zero counts.white)
count_of-raised counts Red White n = sym (add-zero counts.red)

-- what was got rises by the mail of each colour
pub count_of-fetched : {P : Type 0} (got : Counts) (inbox : List (Mail P)) (c : Colour) →
    count_of (raised (raised got White (count_colour White inbox)) Red (count_colour Red inbox)) c ≡ count_of got c + count_colour c inbox
count_of-fetched got inbox White = refl
count_of-fetched got inbox Red = refl

-- ---- mail of one colour

-- a sum under a test that is the same for each
sum_by-if : {X : Type 0} (f : X → ℕ) (b : Bool) (xs : List X) → sum_by (λ x. cond b (f x) 0) xs ≡ cond b (sum_by f xs) 0
sum_by-if f true xs = refl
sum_by-if f false xs = sum_by-zero xs

-- a sum of ones is the length
sum_by-ones : {X : Type 0} (xs : List X) → sum_by (λ x. 1) xs ≡ length xs
sum_by-ones [] = refl
sum_by-ones (x ∷ xs) = let a = sum_by-cons (λ y. 1) x xs in let ih = sum_by-ones xs in omega arith

-- how much mail of a colour letters make
pub count_colour-mailed : {P : Type 0} (colour own : Colour) (letters : List (Letter P)) → count_colour colour (map (mailed own) letters) ≡ cond (is_colour colour own) (length letters) 0
count_colour-mailed colour own letters =
    let a = sum_by-map (λ mail. cond (is_colour colour mail.colour) 1 0) (mailed own) letters in
    let b = sum_by-if (λ letter. 1) (is_colour colour own) letters in
    let c = ap (λ n. cond (is_colour colour own) n 0) (sum_by-ones letters) in
    a ∙ (b ∙ c)

-- and how much of it is early
pub early_coloured-mailed : {P : Type 0} (colour own : Colour) (t : Time) (letters : List (Letter P)) →
    early_coloured colour t (map (mailed own) letters) ≡ cond (is_colour colour own) (early_letters t letters) 0
early_coloured-mailed colour own t letters =
    let a = sum_by-map (λ mail. cond (is_colour colour mail.colour) (mail_weight (early t) mail) 0) (mailed own) letters in
    let b = sum_by-if (letter_weight (early t)) (is_colour colour own) letters in
    a ∙ b

-- where no mail has the other colour, all that is early has this one
pub all-coloured : {P : Type 0} (now : Colour) (t : Time) (mails : List (Mail P)) → count_colour (other_colour now) mails ≡ 0 → early_mail t mails ≡ early_coloured now t mails
all-coloured now t [] none = refl
all-coloured {P = P} now t (mail ∷ mails) none =
    let a = sum_by-cons (λ (m : Mail P). cond (is_colour (other_colour now) m.colour) 1 0) mail mails in
    let b = sum_by-cons (mail_weight (early t)) mail mails in
    let c = sum_by-cons (λ (m : Mail P). cond (is_colour now m.colour) (mail_weight (early t) m) 0) mail mails in
    let ih = all-coloured now t mails (omega arith) in
    let here = one-of now mail.colour (mail_weight (early t) mail) (omega arith) in
    omega arith
  where
    one-of : (x y : Colour) (n : ℕ) → ◌≡◌ {A = ℕ} (cond (is_colour (other_colour x) y) 1 0) 0 → cond (is_colour x y) n 0 ≡ n
    one-of White White n e = refl
    one-of Red Red n e = refl
    one-of White Red n e = absurd (let h : ◌≡◌ {A = ℕ} 1 0 = e in omega arith)
    one-of Red White n e = absurd (let h : ◌≡◌ {A = ℕ} 1 0 = e in omega arith)

-- where no mail has a colour, none of that colour is early
pub none-coloured : {P : Type 0} (colour : Colour) (t : Time) (mails : List (Mail P)) → count_colour colour mails ≡ 0 → early_coloured colour t mails ≡ 0
none-coloured colour t [] none = refl
none-coloured {P = P} colour t (mail ∷ mails) none =
    let a = sum_by-cons (λ (m : Mail P). cond (is_colour colour m.colour) 1 0) mail mails in
    let c = sum_by-cons (λ (m : Mail P). cond (is_colour colour m.colour) (mail_weight (early t) m) 0) mail mails in
    let ih = none-coloured colour t mails (omega arith) in
    let here = no-weight (is_colour colour mail.colour) (mail_weight (early t) mail) (omega arith) in
    omega arith
  where
    no-weight : (b : Bool) (n : ℕ) → ◌≡◌ {A = ℕ} (cond b 1 0) 0 → ◌≡◌ {A = ℕ} (cond b n 0) 0
    no-weight true n e = absurd (let h : ◌≡◌ {A = ℕ} 1 0 = e in omega arith)
    no-weight false n e = refl
