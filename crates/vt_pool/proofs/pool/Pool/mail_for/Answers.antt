use Rattle.std.proofs.Common.{◌≡◌, ◌∙◌, ◌++◌, ℕ, Bool, List, not, length, map, sym, ap, subst, rules, arith}
use Rattle.std.specs.List.{filter}
use Rattle.std.proofs.lemmas.List.Elements.{All-filter}
use Rattle.vt_key.specs.promise.Times.{earlier}
use Rattle.vt_key.specs.declared.fault.Fault.{Fault}
use Rattle.vt_key.specs.declared.letter.Letter.{Letter}
use Rattle.vt_key.proofs.ResultLemmas.{if_err}
use Rattle.vt_model.specs.declared.process.Process.{Process}
use Rattle.vt_model.specs.declared.settings.Config.{Config}
use Rattle.vt_model.specs.inside.Process.{triple_at}
use Rattle.vt_model.specs.promise.Settings.{end_of}
use Rattle.vt_steps.specs.promise.Letters.{least_time}
use Rattle.vt_steps.specs.promise.PartSteps.{is_for}
use Rattle.vt_lp.specs.inside.Held.{AllWithinRun, IsWithinRun}
use Rattle.vt_outbox.specs.inside.Outbox.{HeldOutbox}
use Rattle.vt_outbox.proofs.OutboxLemmas.{receiver-below}
use Rattle.vt_kernel.specs.inside.Held.{AllOwnMail}
use Rattle.vt_kernel.specs.inside.Guards.{mailed}
use Rattle.vt_kernel.proofs.SendLemmas.{IsRoomRefusal, own_mail-sent}
use Rattle.vt_pool.specs.inside.Logged.{placed}
use Rattle.vt_pool.specs.inside.Share.{HeldPool}
use Rattle.vt_pool.proofs.LeavingLemmas.{pool-with}
use Rattle.vt_pool.proofs.pool.Pool.mail_for.Goals as goal

pub returns-in_err-count-clause-refused : goal.returns-in_err-count-clause-refused
returns-in_err-count-clause-refused g c =
    let k = c.self.inside in
    let why = λ (workers : ℕ) (letters : List (Letter _)). IsRoomRefusal c.args.most (length (filter (is_for workers c.args.v) letters)) c.in_err-count.field-0.0 in
    if_err (λ (fault : Fault). IsRoomRefusal c.args.most (length (filter (is_for c.args.self.now.config.workers c.args.v) c.args.self.now.outbox)) fault)
    c.from_residual.result c.in_err-count.field-0.0 (search rules)
    (subst (λ (v : HeldPool _ _ _). why v.config.workers v.outbox) c.self.view_is
    (subst (λ (f : Config). why f.workers k.outbox.letters) c.self.invariant.0.by_worker c.in_err-count.ensures.refused))

pub take_for-letters-requires : goal.take_for-letters-requires
take_for-letters-requires g c =
    let k = c.self.inside in
    let count = c.in_ok-count.ensures.count in
    let known = receiver-below k.outbox.config c.args.v k.outbox.letters (omega (arith, count.0, count.2)) in
    search (rules, known)

pub invariant_of-self : goal.invariant_of-self
invariant_of-self g c =
    let k = c.self.inside in
    let inv = c.self.invariant.0 in
    let test : Letter _ → Bool = is_for k.config.workers c.args.v in
    let letters : c.take_for-letters.new.self.letters ≡ filter (λ (l : Letter _). not (test l)) k.outbox.letters =
    ap (λ (o : HeldOutbox _). o.letters) c.take_for-letters.ensures.left ∙ ap (λ (f : Config). filter (λ (l : Letter _). not (is_for f.workers c.args.v l)) k.outbox.letters) inv.by_worker in
    let enough = inv.enough in
    let more = c.keep_all.ensures.kept in (
      pool-with c.take_for-letters.new.self c.keep_all.new.self
          (subst (AllWithinRun k.config) (sym letters) (All-filter (λ (l : Letter _). not (test l)) (IsWithinRun k.config.lps (end_of k.config)) k.outbox.letters inv.sendable))
          (ap (λ (o : HeldOutbox _). o.config) c.take_for-letters.ensures.left ∙ inv.by_worker)
          (omega (arith, enough, more)) inv,
      c.self.invariant.1,
      c.self.invariant.2,
    )

pub returns-clause-left : goal.returns-clause-left
returns-clause-left g c =
    let k = c.self.inside in
    let letters : c.take_for-letters.new.self.letters ≡ filter (λ (l : Letter _). not (is_for k.config.workers c.args.v l)) k.outbox.letters =
    ap (λ (o : HeldOutbox _). o.letters) c.take_for-letters.ensures.left ∙ ap (λ (f : Config). filter (λ (l : Letter _). not (is_for f.workers c.args.v l)) k.outbox.letters) c.self.invariant.0.by_worker in
    (λ j. record {
      worker = k.worker;
      config = k.config;
      stock = record { triples = map (λ (q : Process _ _ _ _). triple_at q.state q.number q.stream) k.processes.items; past = map (placed k.worker) k.log.events; pending = k.calendar; waiting = k.waiting };
      outbox = letters j;
      serial = k.serial;
      heard = k.heard.items;
    })
    ∙ ap (λ (v : HeldPool _ _ _). record v { outbox = filter (λ (l : Letter _). not (is_for v.config.workers c.args.v l)) v.outbox }) c.self.view_is

pub returns-clause-mail : goal.returns-clause-mail
returns-clause-mail g c =
    let k = c.self.inside in
    let theirs : filter (is_for k.outbox.config.workers c.args.v) k.outbox.letters ≡ filter (is_for c.args.self.now.config.workers c.args.v) c.args.self.now.outbox =
    ap (λ (f : Config). filter (is_for f.workers c.args.v) k.outbox.letters) c.self.invariant.0.by_worker ∙ ap (λ (v : HeldPool _ _ _). filter (is_for v.config.workers c.args.v) v.outbox) c.self.view_is in
    c.mail_letters.ensures.mail ∙ (λ j. c.make_room.ensures.items j ++ ap (map (mailed c.args.colour)) (c.take_for-letters.ensures.taken ∙ theirs) j)

pub returns-clause-own : goal.returns-clause-own
returns-clause-own g c =
    let k = c.self.inside in
    subst (λ (v : HeldPool _ _ _). AllOwnMail v.config c.args.v (map (mailed c.args.colour) (filter (is_for v.config.workers c.args.v) v.outbox))) c.self.view_is
    (own_mail-sent k.config c.args.v c.args.colour k.outbox.letters c.self.invariant.0.sendable)

pub returns-clause-count : goal.returns-clause-count
returns-clause-count g c =
    let k = c.self.inside in
    let theirs : filter (is_for k.outbox.config.workers c.args.v) k.outbox.letters ≡ filter (is_for c.args.self.now.config.workers c.args.v) c.args.self.now.outbox =
    ap (λ (f : Config). filter (is_for f.workers c.args.v) k.outbox.letters) c.self.invariant.0.by_worker ∙ ap (λ (v : HeldPool _ _ _). filter (is_for v.config.workers c.args.v) v.outbox) c.self.view_is in
    let count = c.in_ok-count.ensures.count in
    (count.0 ∙ ap length theirs, count.1, count.2)

pub returns-clause-least : goal.returns-clause-least
returns-clause-least g c =
    let k = c.self.inside in
    let theirs = ap (λ (f : Config). filter (is_for f.workers c.args.v) k.outbox.letters) c.self.invariant.0.by_worker in
    let times = c.mail_letters.ensures.least ∙ ap (least_time (end_of k.config)) (c.take_for-letters.ensures.taken ∙ theirs)
    ∙ ap (λ (v : HeldPool _ _ _). least_time (end_of v.config) (filter (is_for v.config.workers c.args.v) v.outbox)) c.self.view_is in
    c.earlier.ensures ∙ ap (earlier c.args.least.now) times
