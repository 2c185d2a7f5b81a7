use Rattle.std.proofs.Common.{◌≡◌, ◌-◌, ◌%◌, ◌∙◌, refl, sym, ap}
use Rattle.vt_riscv.specs.declared.memory.Size.TheVariants.{Byte, Half, Word, Double}
use Rattle.vt_riscv.specs.declared.effect.Effect.{Effect}
use Rattle.vt_riscv.specs.declared.effect.Effect.TheVariants.{Load, LoadSigned, Store}
use Rattle.vt_riscv.specs.declared.sprint.Go.{Go}
use Rattle.vt_riscv.specs.inside.Readiness.{head_at, instruction_at}
use Rattle.vt_riscv.specs.promise.Arithmetic.{sum}
use Rattle.vt_riscv.specs.promise.Effects.{effect_of}
use Rattle.vt_riscv.specs.inside.Cores.{machine_of}
use Rattle.vt_riscv.specs.promise.Steps.{Turn, register_of, put_in, jumped, loaded, loaded_signed, stored_at, done, exec_of}
use Rattle.vt_riscv.specs.inside.Sprints.{at_ready, due}
use Rattle.vt_riscv.proofs.machine.Core.exec_ready.Goals.{After-effect_of}
use Rattle.vt_riscv.proofs.machine.Core.exec_ready.Given.{Over}
use Rattle.vt_riscv.proofs.machine.Core.exec_ready.Goals as goal

-- what was done is due, where it is what the effect does
does : (g : Over) (c : After-effect_of g) (e : Effect) (go : Go) (t was : Turn _) → c.effect_of.result ≡ e → was ≡ due (machine_of g.row.N c.args.self.now c.args.state.now) t go
    → t ≡ done c.args.code.now (at_ready (machine_of g.row.N c.args.self.now c.args.state.now) c.args.heads.now c.args.here.at) (instruction_at c.args.heads.now c.args.here.immediate c.args.here.at) e
    → was ≡ due (machine_of g.row.N c.args.self.now c.args.state.now) (exec_of c.args.code.now (at_ready (machine_of g.row.N c.args.self.now c.args.state.now) c.args.heads.now c.args.here.at) (instruction_at c.args.heads.now c.args.here.immediate c.args.here.at) (head_at c.args.heads.now c.args.here.at).operation) go
does g c e go t was is same there =
    let m = machine_of g.row.N c.args.self.now c.args.state.now in
    let here = at_ready m c.args.heads.now c.args.here.at in
    let i = instruction_at c.args.heads.now c.args.here.immediate c.args.here.at in
    let o = (head_at c.args.heads.now c.args.here.at).operation in
    let effect : e ≡ effect_of o (register_of m i.first) (register_of m i.second) i.immediate
    = sym is ∙ c.effect_of.ensures ∙ (λ j. effect_of o (c.read-x.ensures j) (c.read-y.ensures j) i.immediate) in
    same ∙ ap (λ (u : Turn _). due m u go) (there ∙ ap (done c.args.code.now here i) effect)

pub returns-in-Put : goal.returns-in-Put
returns-in-Put g c =
    does g (goal.at.returns-in-Put g c).After-effect_of _ _ _ _ c.in-Put.is (c.put_ready.ensures _ _)
    refl

pub returns-in-PutAddress : goal.returns-in-PutAddress
returns-in-PutAddress g c =
    does g (goal.at.returns-in-PutAddress g c).After-effect_of _ _ _ _ c.in-PutAddress.is (c.put_ready-in-PutAddress.ensures _ _)
    (λ j. put_in (at_ready (machine_of g.row.N c.args.self.now c.args.state.now) c.args.heads.now c.args.here.at) (instruction_at c.args.heads.now c.args.here.immediate c.args.here.at) (sum (c.address_at.ensures j) c.args.here.immediate))

pub returns-in-Jump : goal.returns-in-Jump
returns-in-Jump g c =
    does g (goal.at.returns-in-Jump g c).After-effect_of _ _ _ _ c.in-Jump.is (c.link_ready.ensures _ _)
    refl

pub returns-in-JumpTo : goal.returns-in-JumpTo
returns-in-JumpTo g c =
    does g (goal.at.returns-in-JumpTo g c).After-effect_of _ _ _ _ c.in-JumpTo.is (c.jump_ready.ensures _ _)
    (λ j. jumped c.args.code.now (at_ready (machine_of g.row.N c.args.self.now c.args.state.now) c.args.heads.now c.args.here.at) (instruction_at c.args.heads.now c.args.here.immediate c.args.here.at) (sum (c.read-x.ensures j) c.args.here.immediate - sum (c.read-x.ensures j) c.args.here.immediate % 2))

pub returns-in-Branch : goal.returns-in-Branch
returns-in-Branch g c =
    does g (goal.at.returns-in-Branch g c).After-effect_of _ _ _ _ c.in-Branch.is (c.branch_ready.ensures _ _)
    refl

pub returns-in-Load-Byte : goal.returns-in-Load-Byte
returns-in-Load-Byte g c =
    does g (goal.at.returns-in-Load-Byte g c).After-effect_of _ _ _ _ (c.in-Load-Byte.is ∙ ap Load c.in-Load-Byte.field-0-is) c.load_ready.ensures
    (λ j. loaded c.args.code.now (at_ready (machine_of g.row.N c.args.self.now c.args.state.now) c.args.heads.now c.args.here.at) (instruction_at c.args.heads.now c.args.here.immediate c.args.here.at) Byte (sum (c.read-x.ensures j) c.args.here.immediate))

pub returns-in-Load-Half : goal.returns-in-Load-Half
returns-in-Load-Half g c =
    does g (goal.at.returns-in-Load-Half g c).After-effect_of _ _ _ _ (c.in-Load-Half.is ∙ ap Load c.in-Load-Half.field-0-is) c.load_ready-in-Load-Half.ensures
    (λ j. loaded c.args.code.now (at_ready (machine_of g.row.N c.args.self.now c.args.state.now) c.args.heads.now c.args.here.at) (instruction_at c.args.heads.now c.args.here.immediate c.args.here.at) Half (sum (c.read-x.ensures j) c.args.here.immediate))

pub returns-in-Load-Word : goal.returns-in-Load-Word
returns-in-Load-Word g c =
    does g (goal.at.returns-in-Load-Word g c).After-effect_of _ _ _ _ (c.in-Load-Word.is ∙ ap Load c.in-Load-Word.field-0-is) c.load_ready-in-Load-Word.ensures
    (λ j. loaded c.args.code.now (at_ready (machine_of g.row.N c.args.self.now c.args.state.now) c.args.heads.now c.args.here.at) (instruction_at c.args.heads.now c.args.here.immediate c.args.here.at) Word (sum (c.read-x.ensures j) c.args.here.immediate))

pub returns-in-Load-Double : goal.returns-in-Load-Double
returns-in-Load-Double g c =
    does g (goal.at.returns-in-Load-Double g c).After-effect_of _ _ _ _ (c.in-Load-Double.is ∙ ap Load c.in-Load-Double.field-0-is) c.load_ready-in-Load-Double.ensures
    (λ j. loaded c.args.code.now (at_ready (machine_of g.row.N c.args.self.now c.args.state.now) c.args.heads.now c.args.here.at) (instruction_at c.args.heads.now c.args.here.immediate c.args.here.at) Double (sum (c.read-x.ensures j) c.args.here.immediate))

pub returns-in-LoadSigned-Byte : goal.returns-in-LoadSigned-Byte
returns-in-LoadSigned-Byte g c =
    does g (goal.at.returns-in-LoadSigned-Byte g c).After-effect_of _ _ _ _ (c.in-LoadSigned-Byte.is ∙ ap LoadSigned c.in-LoadSigned-Byte.field-0-is) c.load_signed_ready.ensures
    (λ j. loaded_signed c.args.code.now (at_ready (machine_of g.row.N c.args.self.now c.args.state.now) c.args.heads.now c.args.here.at) (instruction_at c.args.heads.now c.args.here.immediate c.args.here.at) Byte (sum (c.read-x.ensures j) c.args.here.immediate))

pub returns-in-LoadSigned-Half : goal.returns-in-LoadSigned-Half
returns-in-LoadSigned-Half g c =
    does g (goal.at.returns-in-LoadSigned-Half g c).After-effect_of _ _ _ _ (c.in-LoadSigned-Half.is ∙ ap LoadSigned c.in-LoadSigned-Half.field-0-is) c.load_signed_ready-in-LoadSigned-Half.ensures
    (λ j. loaded_signed c.args.code.now (at_ready (machine_of g.row.N c.args.self.now c.args.state.now) c.args.heads.now c.args.here.at) (instruction_at c.args.heads.now c.args.here.immediate c.args.here.at) Half (sum (c.read-x.ensures j) c.args.here.immediate))

pub returns-in-LoadSigned-Word : goal.returns-in-LoadSigned-Word
returns-in-LoadSigned-Word g c =
    does g (goal.at.returns-in-LoadSigned-Word g c).After-effect_of _ _ _ _ (c.in-LoadSigned-Word.is ∙ ap LoadSigned c.in-LoadSigned-Word.field-0-is) c.load_signed_ready-in-LoadSigned-Word.ensures
    (λ j. loaded_signed c.args.code.now (at_ready (machine_of g.row.N c.args.self.now c.args.state.now) c.args.heads.now c.args.here.at) (instruction_at c.args.heads.now c.args.here.immediate c.args.here.at) Word (sum (c.read-x.ensures j) c.args.here.immediate))

pub returns-in-LoadSigned-Double : goal.returns-in-LoadSigned-Double
returns-in-LoadSigned-Double g c =
    does g (goal.at.returns-in-LoadSigned-Double g c).After-effect_of _ _ _ _ (c.in-LoadSigned-Double.is ∙ ap LoadSigned c.in-LoadSigned-Double.field-0-is) c.load_signed_ready-in-LoadSigned-Double.ensures
    (λ j. loaded_signed c.args.code.now (at_ready (machine_of g.row.N c.args.self.now c.args.state.now) c.args.heads.now c.args.here.at) (instruction_at c.args.heads.now c.args.here.immediate c.args.here.at) Double (sum (c.read-x.ensures j) c.args.here.immediate))

pub returns-in-Store-Byte : goal.returns-in-Store-Byte
returns-in-Store-Byte g c =
    does g (goal.at.returns-in-Store-Byte g c).After-effect_of _ _ _ _ (c.in-Store-Byte.is ∙ ap Store c.in-Store-Byte.field-0-is) c.store_ready.ensures
    (λ j. stored_at (at_ready (machine_of g.row.N c.args.self.now c.args.state.now) c.args.heads.now c.args.here.at) (instruction_at c.args.heads.now c.args.here.immediate c.args.here.at) Byte (sum (c.read-x.ensures j) c.args.here.immediate) (c.read-y.ensures j))

pub returns-in-Store-Half : goal.returns-in-Store-Half
returns-in-Store-Half g c =
    does g (goal.at.returns-in-Store-Half g c).After-effect_of _ _ _ _ (c.in-Store-Half.is ∙ ap Store c.in-Store-Half.field-0-is) c.store_ready-in-Store-Half.ensures
    (λ j. stored_at (at_ready (machine_of g.row.N c.args.self.now c.args.state.now) c.args.heads.now c.args.here.at) (instruction_at c.args.heads.now c.args.here.immediate c.args.here.at) Half (sum (c.read-x.ensures j) c.args.here.immediate) (c.read-y.ensures j))

pub returns-in-Store-Word : goal.returns-in-Store-Word
returns-in-Store-Word g c =
    does g (goal.at.returns-in-Store-Word g c).After-effect_of _ _ _ _ (c.in-Store-Word.is ∙ ap Store c.in-Store-Word.field-0-is) c.store_ready-in-Store-Word.ensures
    (λ j. stored_at (at_ready (machine_of g.row.N c.args.self.now c.args.state.now) c.args.heads.now c.args.here.at) (instruction_at c.args.heads.now c.args.here.immediate c.args.here.at) Word (sum (c.read-x.ensures j) c.args.here.immediate) (c.read-y.ensures j))

pub returns-in-Store-Double : goal.returns-in-Store-Double
returns-in-Store-Double g c =
    does g (goal.at.returns-in-Store-Double g c).After-effect_of _ _ _ _ (c.in-Store-Double.is ∙ ap Store c.in-Store-Double.field-0-is) c.store_ready-in-Store-Double.ensures
    (λ j. stored_at (at_ready (machine_of g.row.N c.args.self.now c.args.state.now) c.args.heads.now c.args.here.at) (instruction_at c.args.heads.now c.args.here.immediate c.args.here.at) Double (sum (c.read-x.ensures j) c.args.here.immediate) (c.read-y.ensures j))
