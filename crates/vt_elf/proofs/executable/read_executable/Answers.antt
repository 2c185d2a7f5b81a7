use Rattle.std.proofs.Common.{length, ap, ◌∙◌, arith}
use Rattle.vt_elf.specs.promise.Segments.{reach}
use Rattle.vt_elf.specs.declared.segment.Region.TheVariants.{Code, Constants, State}
use Rattle.vt_elf.specs.declared.segment.TheConstants.{IMAGE, STATE}
use Rattle.vt_elf.proofs.SegmentLemmas.{read_sound, ends_fit, least_reach, apart_in_image, apart_in_state, code_ends, image_ends, state_ends}
use Rattle.vt_elf.proofs.executable.read_executable.Goals as goal

pub reach-code_end-requires : goal.reach-code_end-requires
reach-code_end-requires c = ends_fit (length c.args.bytes.now) _ (read_sound c.args.bytes.now _ _ c.in-Ok.parts.1 c.as_slice-segments.ensures.value c.in-Ok.ensures.parts)

pub reach-image_end-requires : goal.reach-image_end-requires
reach-image_end-requires c = ends_fit (length c.args.bytes.now) _ (read_sound c.args.bytes.now _ _ c.in-Ok.parts.1 c.as_slice-segments.ensures.value c.in-Ok.ensures.parts)

pub reach-state_end-requires : goal.reach-state_end-requires
reach-state_end-requires c = ends_fit (length c.args.bytes.now) _ (read_sound c.args.bytes.now _ _ c.in-Ok.parts.1 c.as_slice-segments.ensures.value c.in-Ok.ensures.parts)

pub overflow_sub-image_end : goal.overflow_sub-image_end
overflow_sub-image_end c =
    let ss = c.as_slice-segments.result.now in
    omega (arith, c.reach-code_end.ensures, c.reach-image_end.ensures, least_reach Code IMAGE ss, least_reach Constants c.reach-code_end.result ss)

pub load-requires-clause-apart : goal.load-requires-clause-apart
load-requires-clause-apart c =
    let ss = c.as_slice-segments.result.now in
    apart_in_image c.args.bytes.now ss c.reach-code_end.result c.reach-image_end.result c.reach-code_end.ensures c.reach-image_end.ensures
    (read_sound c.args.bytes.now _ _ c.in-Ok.parts.1 c.as_slice-segments.ensures.value c.in-Ok.ensures.parts)

pub overflow_sub-result : goal.overflow_sub-result
overflow_sub-result c = omega (arith, c.reach-code_end.ensures, least_reach Code IMAGE c.as_slice-segments.result.now)

pub overflow_sub-state_end : goal.overflow_sub-state_end
overflow_sub-state_end c = omega (arith, c.reach-state_end.ensures, least_reach State STATE c.as_slice-segments.result.now)

pub load-requires-2-clause-apart : goal.load-requires-2-clause-apart
load-requires-2-clause-apart c =
    let ss = c.as_slice-segments.result.now in
    apart_in_state c.args.bytes.now ss c.reach-state_end.result c.reach-state_end.ensures
    (read_sound c.args.bytes.now _ _ c.in-Ok.parts.1 c.as_slice-segments.ensures.value c.in-Ok.ensures.parts)

pub returns-clause-code_first : goal.returns-clause-code_first
returns-clause-code_first c =
    omega (arith, c.in-Ok-load.ensures.size, c.reach-image_end.ensures, least_reach Constants c.reach-code_end.result c.as_slice-segments.result.now)

pub returns-clause-code_limit : goal.returns-clause-code_limit
returns-clause-code_limit c =
    let ss = c.as_slice-segments.result.now in
    omega (arith, c.reach-code_end.ensures, code_ends (length c.args.bytes.now) ss (read_sound c.args.bytes.now _ _ c.in-Ok.parts.1 c.as_slice-segments.ensures.value c.in-Ok.ensures.parts))

pub returns-clause-image_limit : goal.returns-clause-image_limit
returns-clause-image_limit c =
    let ss = c.as_slice-segments.result.now in
    let ends = image_ends (length c.args.bytes.now) ss (read_sound c.args.bytes.now _ _ c.in-Ok.parts.1 c.as_slice-segments.ensures.value c.in-Ok.ensures.parts) in
    omega (arith, c.in-Ok-load.ensures.size, c.reach-image_end.ensures ∙ ap (λ least. reach Constants least ss) c.reach-code_end.ensures, ends)

pub returns-clause-state_limit : goal.returns-clause-state_limit
returns-clause-state_limit c =
    let ss = c.as_slice-segments.result.now in
    let ends = state_ends (length c.args.bytes.now) ss (read_sound c.args.bytes.now _ _ c.in-Ok.parts.1 c.as_slice-segments.ensures.value c.in-Ok.ensures.parts) in
    omega (arith, c.in-Ok-load-2.ensures.size, c.reach-state_end.ensures, ends)
