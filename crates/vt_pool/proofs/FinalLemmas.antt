-- What is made of the states of the processes of a pool.
use Rattle.std.proofs.Common.{◌≡◌, ◌∙◌, ℕ, ◌+◌, ◌<◌, List, [], ◌∷◌, ◌++◌, length, take, Some, slice_get, sym, ap, arith}
use Rattle.std.proofs.lemmas.List.{take_more, length-take}
use Rattle.std.proofs.lemmas.Option.{get_or_from_slice_get, slice_get_within}
use Rattle.vt_model.specs.declared.settings.Config.{Config}
use Rattle.vt_model.specs.promise.Handler.{Handlers}
use Rattle.vt_model.specs.promise.Simulation.{Triple}
use Rattle.vt_kernel.specs.inside.Held.{held_values}
use Rattle.vt_pool.specs.inside.View.{Stock, number_at, processes_from}

module _ {S P K : Type 0} (handlers : Handlers S P K) (config : Config) (w : ℕ) (stock : Stock S P K) where
  -- one process more
  values-more : (base : ℕ) (ts : List (Triple S)) (t : Triple S) → held_values handlers (processes_from config w base (ts ++ t ∷ []) stock)
      ≡ held_values handlers (processes_from config w base ts stock) ++ handlers.finish (number_at config w (base + length ts)) t.state ∷ []
  values-more base [] t = let here : base ≡ base + 0 = omega arith in ap (λ n. handlers.finish (number_at config w n) t.state ∷ []) here
  values-more base (x ∷ xs) t =
      let here : (base + 1) + length xs ≡ base + length (x ∷ xs) = omega arith in
      let first = handlers.finish (number_at config w base) x.state in
      ap (λ vs. first ∷ vs) (values-more (base + 1) xs t
      ∙ ap (λ n. held_values handlers (processes_from config w (base + 1) xs stock) ++ handlers.finish (number_at config w n) t.state ∷ []) here)

  pub values-next : (i : ℕ) (t : Triple S) (values more : List ℕ) (value : ℕ) → slice_get stock.triples i ≡ Some t → values ≡ held_values handlers (processes_from config w 0 (take i stock.triples) stock)
      → more ≡ values ++ value ∷ [] → value ≡ handlers.finish (number_at config w i) t.state → more ≡ held_values handlers (processes_from config w 0 (take (i + 1) stock.triples) stock)
  values-next i t values more value at so_far pushed is =
      let within : i < length stock.triples = slice_get_within stock.triples i t at in
      let front = take i stock.triples in
      let longer : take (i + 1) stock.triples ≡ front ++ t ∷ [] =
      take_more stock.triples i t within ∙ ap (λ (x : Triple S). front ++ x ∷ []) (get_or_from_slice_get stock.triples i t t at) in
      let long : 0 + length front ≡ i = simp length-take (omega (arith, within)) in
      pushed ∙ (λ j. so_far j ++ is j ∷ [])
      ∙ ap (λ n. held_values handlers (processes_from config w 0 front stock) ++ handlers.finish (number_at config w n) t.state ∷ []) (sym long)
      ∙ sym (values-more 0 front t)
      ∙ ap (λ ts. held_values handlers (processes_from config w 0 ts stock)) (sym longer)
