-- Colours.
use Rattle.vt_key.specs.declared.letter.Colour.{Colour}
use Rattle.vt_key.specs.declared.letter.Colour.TheVariants.{White, Red}

-- the other of the two colours
abbrev pub other_colour : Colour → Colour
other_colour White = Red
other_colour Red = White
