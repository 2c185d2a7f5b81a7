use Rattle.std.proofs.Common.{◌≡◌, map, string_bytes, take}
use Rattle.vt_options.specs.inside.Line.{helps_of}
use Rattle.vt_options.proofs.helping.told_options.Given as goal

-- the options so far are there with their help
abbrev pub invariant-loop-option : goal.invariant-loop-option
invariant-loop-option l = (map (λ t. t.option) l.list.items ≡ take l.option-index l.options)
    × (map (λ t. string_bytes t.help) l.list.items ≡ helps_of (take l.option-index l.options))
