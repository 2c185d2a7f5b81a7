use Rattle.vt_riscv.proofs.ready.entry_at.Goals as goal

pub returns-in-None : goal.returns-in-None
returns-in-None c = c.one.ensures c.args.image.now
