-- Keys compare first by their heads, which hold time and source.
use Rattle.std.proofs.Common.{◌≡◌, ◌<◌, ◌^◌, arith}
use Rattle.std.proofs.lemmas.Bool.Decides.{nat_tests}
use Rattle.std.specs.Prelude.{nat_lt}
use Rattle.std.specs.Ordering.{nat_cmp}
use Rattle.vt_key.specs.promise.Keys.{Key}
use Rattle.vt_key.specs.inside.Keys.{key_cmp, key_head}
use Rattle.vt_key.specs.promise.Order.{key_before}

-- keys of one head have one time and one source
one_time : (a b : Key) → a.source < 2 ^ 32 → b.source < 2 ^ 32 → key_head a ≡ key_head b → a.time ≡ b.time
one_time a b h k e = omega (arith, h, k, e)

one_source : (a b : Key) → a.source < 2 ^ 32 → b.source < 2 ^ 32 → key_head a ≡ key_head b → a.source ≡ b.source
one_source a b h k e = omega (arith, h, k, e)

pub before-of_one_head : (a b : Key) → a.source < 2 ^ 32 → b.source < 2 ^ 32 → key_head a ≡ key_head b → nat_lt a.number b.number ≡ key_before a b
unfolding key_before
before-of_one_head a b h k e =
    let t = one_time a b h k e in
    let s = one_source a b h k e in
    grind (arith, nat_tests)

pub before-by_head : (a b : Key) → a.source < 2 ^ 32 → b.source < 2 ^ 32 → (key_head a ≡ key_head b → ⊥) → nat_lt (key_head a) (key_head b) ≡ key_before a b
unfolding key_before
before-by_head a b h k e = grind (arith, nat_tests)

pub cmp-of_one_head : (a b : Key) → a.source < 2 ^ 32 → b.source < 2 ^ 32 → key_head a ≡ key_head b → nat_cmp a.number b.number ≡ key_cmp a b
cmp-of_one_head a b h k e =
    let t = one_time a b h k e in
    let s = one_source a b h k e in
    grind (arith, nat_tests)

pub cmp-by_head : (a b : Key) → a.source < 2 ^ 32 → b.source < 2 ^ 32 → (key_head a ≡ key_head b → ⊥) → nat_cmp (key_head a) (key_head b) ≡ key_cmp a b
cmp-by_head a b h k e = grind (arith, nat_tests)
