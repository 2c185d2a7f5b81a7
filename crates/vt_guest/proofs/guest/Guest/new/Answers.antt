use Rattle.std.proofs.Common.{rules, ◌≡◌, ℕ, ◌-◌, ◌++◌, ◌∙◌, length, take, replicate, min, ap, arith}
use Rattle.std.proofs.lemmas.List.{drop-replicate, take_min}
use Rattle.vt_guest.proofs.guest.Guest.new.Goals as goal

pub returns-clause-first : goal.returns-clause-first
returns-clause-first g c =
    let xs = c.args.program.first.items in
    let size = g.row.SIZE in
    let fits = c.min-fits.result in
    let least : fits ≡ min size (length xs) = search rules in
    let copied : c.copy_from_slice.new.self ≡ take fits xs = search rules in
    let rest : size - fits ≡ size - length xs = omega (arith, least) in
    (λ j. copied j ++ drop-replicate fits size 0 j)
    ∙ (λ j. (ap (λ (k : ℕ). take k xs) least ∙ take_min size xs) j ++ replicate (rest j) 0)
