use Rattle.std.proofs.Common.{◌≡◌, ℕ, ◌∙◌, [], ap, sym, arith}
use Rattle.vt_model.specs.inside.Sends.{with_requests}
use Rattle.vt_model.proofs.RequestLemmas.{no_requests}
use Rattle.vt_relay.specs.inside.Relay.{passed}
use Rattle.vt_relay.proofs.relay.Relay.pass.Goals as goal

-- a token that isn't passed on goes nowhere
pub returns-else-hops-gt0 : goal.returns-else-hops-gt0
returns-else-hops-gt0 c =
    let none : c.args.hops ≡ 0 = omega (arith, c.if-hops-gt0.false) in
    no_requests c.args.out.now ∙ ap (λ (n : ℕ). with_requests c.args.out.now (passed c.args.self.now c.args.out.now.lps c.args.lp n) []) (sym none)
