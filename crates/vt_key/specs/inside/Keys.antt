-- The name of an event in virtual time.
use Rattle.std.specs.Prelude.{ℕ, ◌+◌, ◌*◌, ◌^◌}
use Rattle.std.specs.declared.cmp.Ordering.{Ordering}
use Rattle.std.specs.Ordering.{nat_cmp, on, then_cmp}
use Rattle.vt_key.specs.promise.Keys.{Key}

-- how two keys compare: by the time, then by the source, then by the number
abbrev pub key_cmp : Key → Key → Ordering
key_cmp = then_cmp (on (λ k. k.time) nat_cmp) (then_cmp (on (λ k. k.source) nat_cmp) (on (λ k. k.number) nat_cmp))

-- time and source in one number: keys that differ in either compare as these
abbrev pub key_head : Key → ℕ
key_head k = k.time * 2 ^ 56 + k.source * 2 ^ 24
