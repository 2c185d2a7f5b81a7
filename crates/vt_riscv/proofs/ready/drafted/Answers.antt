use Rattle.std.proofs.Common.{rules, ◌≡◌, ℕ, ◌+◌, ◌-◌, ◌<◌, ◌^◌, List, [], ◌∷◌, ◌++◌, length, slice_index, refl, sym, ap, subst, arith}
use Rattle.vt_riscv.specs.declared.ready.Head.{Head}
use Rattle.vt_riscv.specs.inside.Readiness.{ended, AreEnded, IsReadyAt}
use Rattle.vt_riscv.proofs.ReadyLemmas.{one_more, closed, ended_so}
use Rattle.vt_riscv.proofs.ready.drafted.Goals as goal

pub overflow_add-index : goal.overflow_add-index
overflow_add-index c = omega (arith, c.requires, c.entry_at-entry.ensures.within)

pub overflow_add-index-in-indices : goal.overflow_add-index-in-indices
overflow_add-index-in-indices c = omega (arith, c.requires, c.entry_at-entry.ensures.within)

pub overflow_sub-rest : goal.overflow_sub-rest
overflow_sub-rest c = omega (arith, c.entry_at-entry.ensures.room, c.indices.invariant.room)

pub indices-smaller : goal.indices-smaller
indices-smaller c = omega (arith, c.entry_at-entry.ensures.some, c.entry_at-entry.ensures.fits, c.entry_at-entry.ensures.within)

pub indices-preserved : goal.indices-preserved
indices-preserved c =
    let list = c.args.list.now in
    let image = c.args.image.now in
    let index = c.indices.index in
    let heads = c.indices.heads.items in
    let immediates = c.indices.immediates.items in
    let rests = c.indices.rests.items in
    let rest = c.indices.rest in
    let e = c.entry_at-entry.result in
    let made = c.entry_at-entry.ensures in
    let behind = index + e.span in
    let after = rest - e.steps in
    let pushed : c.push.new.self.items ≡ heads ++ e.head ∷ [] = search rules in
    let pushed_too : c.push-in-indices.new.self.items ≡ immediates ++ e.immediate ∷ [] = search rules in
    let pushed_as_well : c.push-in-indices-2.new.self.items ≡ rests ++ rest ∷ [] = search rules in
    let few : behind < 2 ^ 32 = omega (arith, c.requires, made.within) in
    let steps : rest ≡ after + e.steps = omega (arith, made.room, c.indices.invariant.room) in
    let all = one_more c.args.compressed image list heads immediates rests index rest c.indices.invariant.many c.indices.invariant.as_many c.indices.invariant.each c.indices.invariant.even e behind after made refl few steps in
    record {
      many = search rules;
      as_many = search rules;
      few = omega (arith, c.indices.invariant.few, made.some, made.fits, ap (λ (xs : List Head). length xs) pushed);
      within = made.within;
      room = omega (arith, c.indices.invariant.room, made.fits, made.room);
      even = made.even c.indices.invariant.even;
      each = subst (λ (xs : List Head). (k : ℕ) → k < length xs → IsReadyAt c.args.compressed image list (xs ++ ended behind ∷ []) (c.push-in-indices-2.new.self.items ++ after ∷ []) (slice_index c.push-in-indices.new.self.items k) k) (sym pushed)
          (subst (λ (ys : List ℕ). (k : ℕ) → k < length (heads ++ e.head ∷ []) → IsReadyAt c.args.compressed image list ((heads ++ e.head ∷ []) ++ ended behind ∷ []) (c.push-in-indices-2.new.self.items ++ after ∷ []) (slice_index ys k) k) (sym pushed_too)
          (subst (λ (zs : List ℕ). (k : ℕ) → k < length (heads ++ e.head ∷ []) → IsReadyAt c.args.compressed image list ((heads ++ e.head ∷ []) ++ ended behind ∷ []) (zs ++ after ∷ []) (slice_index (immediates ++ e.immediate ∷ []) k) k) (sym pushed_as_well) all));
    }

pub returns-clause-ends : goal.returns-clause-ends
returns-clause-ends c =
    let pushed : c.push-2.new.self.items ≡ c.indices.heads.items ++ ended c.indices.index ∷ [] = search rules in
    subst AreEnded (sym pushed) (ended_so c.indices.heads.items c.indices.index)

pub returns-clause-each : goal.returns-clause-each
returns-clause-each c =
    let list = c.args.list.now in
    let image = c.args.image.now in
    let heads = c.indices.heads.items in
    let immediates = c.indices.immediates.items in
    let rests = c.indices.rests.items in
    let index = c.indices.index in
    let rest = c.indices.rest in
    let pushed : c.push-2.new.self.items ≡ heads ++ ended index ∷ [] = search rules in
    let pushed_too : c.push-3.new.self.items ≡ immediates ++ 0 ∷ [] = search rules in
    let pushed_as_well : c.push-4.new.self.items ≡ rests ++ rest ∷ [] = search rules in
    let all = closed c.args.compressed image list heads immediates rests index rest c.indices.invariant.many c.indices.invariant.as_many c.indices.invariant.each c.indices.invariant.even in
    subst (λ (xs : List Head). (k : ℕ) → k < length xs → IsReadyAt c.args.compressed image list xs c.push-4.new.self.items (slice_index c.push-3.new.self.items k) k) (sym pushed)
    (subst (λ (ys : List ℕ). (k : ℕ) → k < length (heads ++ ended index ∷ []) → IsReadyAt c.args.compressed image list (heads ++ ended index ∷ []) c.push-4.new.self.items (slice_index ys k) k) (sym pushed_too)
    (subst (λ (zs : List ℕ). (k : ℕ) → k < length (heads ++ ended index ∷ []) → IsReadyAt c.args.compressed image list (heads ++ ended index ∷ []) zs (slice_index (immediates ++ 0 ∷ []) k) k) (sym pushed_as_well) all))
