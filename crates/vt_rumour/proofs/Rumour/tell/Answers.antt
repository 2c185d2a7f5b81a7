use Rattle.std.proofs.Common.{◌≡◌, ℕ, ◌∙◌, [], ap, sym, arith}
use Rattle.vt_model.specs.inside.Sends.{with_requests}
use Rattle.vt_model.proofs.RequestLemmas.{no_requests}
use Rattle.vt_rumour.specs.inside.Rumour.{told}
use Rattle.vt_rumour.proofs.Rumour.tell.Goals as goal

-- a rumour that isn't passed on is told to nobody
pub returns-else-rounds-gt0 : goal.returns-else-rounds-gt0
returns-else-rounds-gt0 c =
    let none : c.args.rounds ≡ 0 = omega (arith, c.if-rounds-gt0.false) in
    no_requests c.args.out.now ∙ ap (λ (n : ℕ). with_requests c.args.out.now (told c.args.self.now c.args.out.now.lps n) []) (sym none)
