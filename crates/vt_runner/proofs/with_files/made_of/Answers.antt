use Rattle.std.proofs.Common.{◌∙◌, ap, length}
use Rattle.vt_runner.proofs.WithFilesLemmas.{as_many}
use Rattle.vt_runner.proofs.with_files.made_of.Goals as goal

pub make-requires : goal.make-requires
make-requires g c =
    c.requires c.as_slice-2.result c.as_slice-3.result c.as_slice-2.ensures.value
    (ap length c.as_slice-3.ensures.value ∙ as_many (g.D.Files.told c.args.opened.now) c.as_slice.result.now c.in-Ok.files.items c.in-Ok.ensures.ok ∙ ap length c.as_slice.ensures.value)
