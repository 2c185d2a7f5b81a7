-- Letters: their stamps, times and colours.
use Rattle.std.specs.Prelude.{ℕ, ◌+◌, Bool, true, false, List, [], ◌∷◌, map}
use Rattle.std.specs.List.{count_by}
use Rattle.vt_key.specs.promise.Times.{Time, earlier}
use Rattle.vt_key.specs.declared.letter.Event.{Event}
use Rattle.vt_key.specs.declared.letter.Letter.{Letter}
use Rattle.vt_key.specs.declared.letter.Mail.{Mail}
use Rattle.vt_key.specs.declared.letter.Sign.{Sign}
use Rattle.vt_key.specs.declared.letter.Colour.{Colour}
use Rattle.vt_key.specs.declared.letter.Colour.TheVariants.{White, Red}
use Rattle.vt_model.specs.declared.sending.Sent.{Sent}

-- the least of these times; of none it is the end of the run
abbrev pub least_of : Time → List Time → Time
least_of end [] = end
least_of end (time ∷ times) = earlier time (least_of end times)

module _ {P : Type 0} where
  -- an event as the model knows it: without its stamp
  abbrev pub unstamped : Event P → Sent P
  unstamped event = record { key = event.rank.key; dest = event.dest; payload = event.payload }

  -- these sends with stamps of a worker: one serial after the other, from a first one on
  abbrev pub stamped : ℕ → ℕ → List (Sent P) → List (Event P)
  stamped w serial [] = []
  stamped w serial (send ∷ sends) =
      record { rank = record { key = send.key; stamp = record { worker = w; serial = serial } }; dest = send.dest; payload = send.payload }
      ∷ stamped w (serial + 1) sends

  -- the letter of an event with this sign: its message, or its anti-message
  abbrev pub signed : Sign → Event P → Letter P
  signed sign event = record { event = event; sign = sign }

  -- the time of a letter is the receive time of its event
  abbrev pub letter_time : Letter P → Time
  letter_time letter = letter.event.rank.key.time

  -- the least time of these letters; of none it is the end of the run
  abbrev pub least_time : Time → List (Letter P) → Time
  least_time end letters = least_of end (map letter_time letters)

-- the list is empty
abbrev pub is_empty : {X : Type 0} → List X → Bool
is_empty [] = true
is_empty (x ∷ xs) = false

-- the two colours are one
abbrev pub is_colour : Colour → Colour → Bool
is_colour White White = true
is_colour Red Red = true
is_colour _ _ = false

-- a number for each colour
pub record Counts : Type 0 where
  pub white : ℕ
  pub red : ℕ

-- the number for this colour
abbrev pub count_of : Counts → Colour → ℕ
count_of counts White = counts.white
count_of counts Red = counts.red

-- the number for this colour is raised, the other stays
abbrev pub raised : Counts → Colour → ℕ → Counts
raised counts White n = record { white = counts.white + n; red = counts.red }
raised counts Red n = record { white = counts.white; red = counts.red + n }

-- how much of the mail has this colour
abbrev pub count_colour : {P : Type 0} → Colour → List (Mail P) → ℕ
count_colour colour mails = count_by (λ mail. is_colour colour mail.colour) mails
