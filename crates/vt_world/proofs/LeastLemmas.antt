-- The least time of letters that are gathered one list after the other.
use Rattle.std.proofs.Common.{◌≡◌, ℕ, ◌+◌, List, [], ◌∷◌, ◌++◌, map, refl, sym, ◌∙◌, ap}
use Rattle.std.specs.List.{All, flat_map}
use Rattle.std.proofs.lemmas.List.{map-append}
use Rattle.std.proofs.lemmas.List.Elements.{All-nil, All-cons}
use Rattle.vt_key.specs.promise.Times.{Time, earlier}
use Rattle.vt_key.specs.declared.letter.Letter.{Letter}
use Rattle.vt_key.specs.declared.letter.Mail.{Mail}
use Rattle.vt_model.specs.declared.settings.Config.{Config}
use Rattle.vt_model.specs.promise.Settings.{end_of}
use Rattle.vt_steps.specs.promise.Letters.{least_time}
use Rattle.vt_kernel.specs.inside.Held.{HeldWorker}
use Rattle.vt_kernel.proofs.TimeLemmas.{earlier_assoc, earlier_comm, least_time-append}
use Rattle.vt_world.specs.inside.Held.{AreWorkers}

module _ {P : Type 0} (end : Time) where
  -- the letters of one more
  pub least-more : {X : Type 0} (letters : X → List (Letter P)) (xs : List X) (x : X)
      → least_time end (flat_map letters (xs ++ x ∷ [])) ≡ earlier (least_time end (flat_map letters xs)) (least_time end (letters x))
  least-more letters [] x = least_time-append end (letters x) [] ∙ earlier_comm (least_time end (letters x)) end
  least-more letters (y ∷ ys) x =
      least_time-append end (letters y) (flat_map letters (ys ++ x ∷ []))
      ∙ ap (earlier (least_time end (letters y))) (least-more letters ys x)
      ∙ sym (earlier_assoc (least_time end (letters y)) (least_time end (flat_map letters ys)) (least_time end (letters x)))
      ∙ ap (λ t. earlier t (least_time end (letters x))) (sym (least_time-append end (letters y) (flat_map letters ys)))

module _ {P : Type 0} where
  -- letters out of all mail are those out of each inbox
  pub mail-letters : (inboxes : List (List (Mail P)))
      → flat_map (λ (inbox : List (Mail P)). map (λ (mail : Mail P). mail.letter) inbox) inboxes ≡ map (λ (mail : Mail P). mail.letter) (flat_map (λ inbox. inbox) inboxes)
  mail-letters [] = refl
  mail-letters (x ∷ xs) =
      ap (λ ls. map (λ (mail : Mail P). mail.letter) x ++ ls) (mail-letters xs)
      ∙ sym (map-append (λ (mail : Mail P). mail.letter) x (flat_map (λ inbox. inbox) xs))

module _ {S P K : Type 0} where
  -- all workers know when the run ends
  pub workers-end : (config : Config) (base : ℕ) (held : List (HeldWorker S P K)) → AreWorkers config base held → All (λ (k : HeldWorker S P K). (end_of k.config) ≡ (end_of config)) held
  workers-end config base [] h = All-nil (λ (k : HeldWorker S P K). (end_of k.config) ≡ (end_of config))
  workers-end config base (x ∷ xs) h =
      All-cons (λ (k : HeldWorker S P K). (end_of k.config) ≡ (end_of config)) x xs (ap (λ (f : Config). (end_of f)) h.1) (workers-end config (base + 1) xs h.2)
