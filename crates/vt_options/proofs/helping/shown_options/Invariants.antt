use Rattle.std.proofs.Common.{◌≡◌, map, string_bytes, take}
use Rattle.vt_options.specs.inside.Line.{options_of}
use Rattle.vt_options.proofs.helping.shown_options.Given as goal

-- the options so far are there, with their help as their texts
abbrev pub invariant-loop-option : goal.invariant-loop-option
invariant-loop-option l = (options_of l.list.items ≡ options_of (map (λ t. t.option) (take l.option-index l.told)))
    × (map (λ o. o.text.help.now) l.list.items ≡ map (λ t. string_bytes t.help) (take l.option-index l.told))
