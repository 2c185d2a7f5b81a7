use Rattle.std.proofs.Common.{◌∙◌, ap, sym, subst}
use Rattle.vt_key.specs.declared.letter.Letter.{Letter}
use Rattle.vt_pool.specs.inside.Share.{HeldPool, PoolLeadsTo}
use Rattle.vt_pool.proofs.ReceiveLemmas.{message-new, message-not_past, message-came, anti_message-new, anti_message-came}
use Rattle.vt_pool.proofs.pool.Pool.receive.Goals as goal

pub receive_message-requires-clause-new : goal.receive_message-requires-clause-new
receive_message-requires-clause-new g c κs within =
    message-new c.args.self.now c.args.letter c.requires.may (sym (ap (λ (l : Letter _). l.sign) c.get.ensures) ∙ c.in-Plus.is)

pub receive_message-requires-clause-not_past : goal.receive_message-requires-clause-not_past
receive_message-requires-clause-not_past g c κs within =
    message-not_past c.args.self.now c.args.letter c.requires.may (sym (ap (λ (l : Letter _). l.sign) c.get.ensures) ∙ c.in-Plus.is)

pub receive_anti_message-requires-clause-new : goal.receive_anti_message-requires-clause-new
receive_anti_message-requires-clause-new g c κs within =
    anti_message-new c.args.self.now c.args.letter c.requires.may (sym (ap (λ (l : Letter _). l.sign) c.get.ensures) ∙ c.in-Minus.is)

pub returns-in-Plus-clause-leads : goal.returns-in-Plus-clause-leads
returns-in-Plus-clause-leads g c =
    let is = sym (ap (λ (l : Letter _). l.sign) c.get.ensures) ∙ c.in-Plus.is in
    subst (λ (v : HeldPool _ _ _). PoolLeadsTo (g.M.Model.handlers c.args.model.now) v c.receive_message.new.self) (message-came c.args.self.now c.args.letter c.requires.may is) c.receive_message.ensures.leads

pub returns-in-Minus-clause-leads : goal.returns-in-Minus-clause-leads
returns-in-Minus-clause-leads g c =
    let is = sym (ap (λ (l : Letter _). l.sign) c.get.ensures) ∙ c.in-Minus.is in
    subst (λ (v : HeldPool _ _ _). PoolLeadsTo (g.M.Model.handlers c.args.model.now) v c.receive_anti_message.new.self) (anti_message-came c.args.self.now c.args.letter c.requires.may is) c.receive_anti_message.ensures.leads
