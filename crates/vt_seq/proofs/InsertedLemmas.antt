-- Events put into their places rise, and are those put in and those that were there.
use Rattle.std.proofs.Common.{◌≡◌, ℕ, suc, ◌+◌, ◌<◌, ◌≤◌, ◌⊎◌, inl, inr, List, [], ◌∷◌, true, false, cond, refl, sym, ap, ◌∙◌, arith}
use Rattle.std.specs.List.{sum_by}
use Rattle.std.proofs.lemmas.List.Sums.{sum_by-cons}
use Rattle.vt_key.specs.promise.Keys.{Key}
use Rattle.vt_key.specs.promise.Order.{KeyBefore, key_before}
use Rattle.vt_key.specs.promise.Lists.{Among}
use Rattle.vt_key.proofs.ListLemmas.{every-insert_ordered, every-weaker, among-insert_ordered, insert_ordered-among}
use Rattle.vt_key.proofs.OrderLemmas.{key-transitive, key-total, key_before-true, before-key_before}
use Rattle.vt_model.specs.declared.sending.Sent.{Sent}
use Rattle.vt_model.specs.promise.Histories.{AreNumbered}
use Rattle.vt_model.specs.inside.Histories.{IsRising}
use Rattle.vt_seq.specs.inside.Queue.{inserted, all_inserted, HaveNewKeys}

module _ {P : Type 0} where
  pub inserted-rising : (e : Sent P) (ds : List (Sent P)) → IsRising ds → ((d : Sent P) → Among d ds → d.key ≡ e.key → ⊥) → IsRising (inserted e ds)
  inserted-rising e [] r new = (tt, tt)
  inserted-rising e (d ∷ ds) r new =
      elim (key_before e.key d.key) as (λ t. key_before e.key d.key ≡ t → IsRising (cond t (e ∷ d ∷ ds) (d ∷ inserted e ds))) [
        | true ↦ λ y. (
            let b : KeyBefore e.key d.key = key_before-true e.key d.key y in
            ((b, every-weaker (λ f. KeyBefore d.key f.key) (λ f. KeyBefore e.key f.key) ds (λ f. key-transitive e.key d.key f.key b) r.0), r))
        | false ↦ λ y. (
            let b : KeyBefore d.key e.key = elim (key-total d.key e.key) [
              | inl u ↦ u
              | inr u ↦ elim u [
                | inl v ↦ absurd (new d (inl refl) v)
                | inr v ↦ let w : false ≡ true = sym y ∙ before-key_before e.key d.key v in absurd (cc)
              ]
            ] in
            (every-insert_ordered (λ f g. key_before f.key g.key) (λ f. KeyBefore d.key f.key) e ds b r.0, inserted-rising e ds r.1 (λ f m. new f (inr m))))
      ] refl

  pub all_inserted-among : (es ds : List (Sent P)) (f : Sent P) → Among f (all_inserted es ds) → Among f es ⊎ Among f ds
  all_inserted-among [] ds f m = inr m
  all_inserted-among (e ∷ es) ds f m =
      elim (all_inserted-among es (inserted e ds) f m) [ inl a ↦ inl (inr a) | inr a ↦ elim (insert_ordered-among (λ f g. key_before f.key g.key) e ds f a) [ inl at ↦ inl (inl at) | inr b ↦ inr b ] ]

  pub among-all_inserted : (es ds : List (Sent P)) (f : Sent P) → Among f es ⊎ Among f ds → Among f (all_inserted es ds)
  among-all_inserted [] ds f m = elim m [ inl never ↦ absurd never | inr a ↦ a ]
  among-all_inserted (e ∷ es) ds f m =
      among-all_inserted es (inserted e ds) f (elim m [ inl a ↦ elim a [ inl at ↦ inr (among-insert_ordered (λ f g. key_before f.key g.key) e ds f (inl at)) | inr b ↦ inl b ] | inr a ↦ inr (among-insert_ordered (λ f g. key_before f.key g.key) e ds f (inr a)) ])

  -- sends with new numbers rise among those that are there
  pub all_inserted-rising : (p lo hi : ℕ) (es ds : List (Sent P)) → AreNumbered p lo hi es → IsRising ds
      → ((d : Sent P) → Among d ds → d.key.source ≡ p → d.key.number < lo) → IsRising (all_inserted es ds)
  all_inserted-rising p lo hi [] ds n r old = r
  all_inserted-rising p lo hi (e ∷ es) ds n r old =
      let low : lo ≤ e.key.number = n.1 in
      let once : IsRising (inserted e ds) = inserted-rising e ds r (λ d m same.
      let source : d.key.source ≡ p = ap (λ (k : Key). k.source) same ∙ n.0 in
      let before : d.key.number < lo = old d m source in
      let number : d.key.number ≡ e.key.number = ap (λ (k : Key). k.number) same in
      omega arith) in
      all_inserted-rising p (suc e.key.number) hi es (inserted e ds) n.2 once (λ d m source. elim (insert_ordered-among (λ f g. key_before f.key g.key) e ds d m) [
        | inl at ↦ let number : d.key.number ≡ e.key.number = ap (λ (x : Sent P). x.key.number) at in omega arith
        | inr b ↦ let before : d.key.number < lo = old d b source in omega arith
      ])

  -- sends with new numbers have keys that aren't there
  pub are_new : (p lo hi : ℕ) (es ds : List (Sent P)) → AreNumbered p lo hi es → ((d : Sent P) → Among d ds → d.key.source ≡ p → d.key.number < lo) → HaveNewKeys es ds
  are_new p lo hi [] ds n old = tt
  are_new p lo hi (e ∷ es) ds n old =
      let low : lo ≤ e.key.number = n.1 in (
        λ d m same.
            let source : d.key.source ≡ p = ap (λ (k : Key). k.source) same ∙ n.0 in
            let before : d.key.number < lo = old d m source in
            let number : d.key.number ≡ e.key.number = ap (λ (k : Key). k.number) same in
            omega arith,
        are_new p (suc e.key.number) hi es (inserted e ds) n.2 (λ d m source. elim (insert_ordered-among (λ f g. key_before f.key g.key) e ds d m) [
          | inl at ↦ let number : d.key.number ≡ e.key.number = ap (λ (x : Sent P). x.key.number) at in omega arith
          | inr b ↦ let before : d.key.number < lo = old d b source in omega arith
        ]),
      )

  -- a sum over events put into their places
  pub inserted-sum : (f : Sent P → ℕ) (e : Sent P) (ds : List (Sent P)) → sum_by f (inserted e ds) ≡ f e + sum_by f ds
  inserted-sum f e [] = sum_by-cons f e []
  inserted-sum f e (d ∷ ds) =
      elim (key_before e.key d.key) as (λ t. sum_by f (cond t (e ∷ d ∷ ds) (d ∷ inserted e ds)) ≡ f e + sum_by f (d ∷ ds)) [
        | true ↦ sum_by-cons f e (d ∷ ds)
        | false ↦ omega (arith, inserted-sum f e ds, sum_by-cons f d (inserted e ds), sum_by-cons f d ds)
      ]

  pub all_inserted-sum : (f : Sent P → ℕ) (es ds : List (Sent P)) → sum_by f (all_inserted es ds) ≡ sum_by f es + sum_by f ds
  all_inserted-sum f [] ds = let z : 0 + sum_by f ds ≡ sum_by f ds = omega arith in sym z
  all_inserted-sum f (e ∷ es) ds = omega (arith, all_inserted-sum f es (inserted e ds), inserted-sum f e ds, sum_by-cons f e es)
