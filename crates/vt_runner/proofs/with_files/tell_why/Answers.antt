use Rattle.std.proofs.Common.{inl, refl}
use Rattle.vt_runner.proofs.WithFilesLemmas.{why_told}
use Rattle.vt_runner.proofs.with_files.tell_why.Goals as goal

pub returns : goal.returns
returns g c =
    inl (refl, why_told _ _ _ c.in-Some.ensures.0 _ _ _ _ c.write_bytes.result c.in-Some.ensures.1 c.in-Some.ensures.2 c.as_bytes.ensures.value c.write_bytes.ensures.ok c.write_bytes.ensures.err)
