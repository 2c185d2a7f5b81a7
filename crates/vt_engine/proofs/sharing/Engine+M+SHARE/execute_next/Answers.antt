use Rattle.std.proofs.Common.{◌≡◌, ◌∙◌, true, IfOk, sym, ap, subst}
use Rattle.vt_kernel.specs.inside.Held.{HeldWorker}
use Rattle.vt_share.specs.inside.Calls.{ExecutesNext}
use Rattle.vt_engine.specs.declared.kind.Kind.{Kind}
use Rattle.vt_engine.specs.inside.Held.{held_of}
use Rattle.vt_engine.proofs.sharing.Engine+M+SHARE.execute_next.Goals as goal

pub execute_next-requires-send-M-Payload : goal.execute_next-requires-send-M-Payload
execute_next-requires-send-M-Payload g c κs within = record { owned = c.type_bounds.send-M-Payload.owned; leaving = c.type_bounds.send-M-Payload.leaving }

pub returns-clause-executed : goal.returns-clause-executed
returns-clause-executed g c =
    subst (λ (k : HeldWorker _ _ _). IfOk c.execute_next.result (λ done. done ≡ true → ExecutesNext (g.M.Model.handlers c.args.model.now) k c.execute_next.new.self))
    (sym (ap (λ (k : Kind _ _ _ _). held_of k) c.in-Share.is) ∙ ap (λ (k : Kind _ _ _ _). held_of k) c.deref_mut.ensures.value ∙ c.self.view_is) c.execute_next.ensures.executed
