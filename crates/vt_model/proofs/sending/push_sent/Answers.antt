use Rattle.std.proofs.Common.{[], ◌∷◌, ◌++◌, ◌∙◌, ap, sym}
use Rattle.vt_model.specs.inside.Out.{sends_held}
use Rattle.vt_model.proofs.sending.push_sent.Goals as goal

pub returns-in-Some : goal.returns-in-Some
returns-in-Some g c = c.push.ensures.items ∙ ap (λ s. sends_held s ++ c.args.sent ∷ []) (sym c.in-Some.is)

pub returns-in-None : goal.returns-in-None
returns-in-None g c =
    c.push-in-None.ensures.items ∙ ap (λ xs. xs ++ c.args.sent ∷ []) c.new_in-first.ensures ∙ ap (λ s. sends_held s ++ c.args.sent ∷ []) (sym c.in-None.is)
