use Rattle.std.proofs.Common.{◌≡◌, ◌+◌, ◌-◌, ◌<◌, ◌≤◌, ◌&&◌, true, leb, ltb, length, sym, refl, ◌∙◌, arith}
use Rattle.std.proofs.lemmas.Bool.{and_parts, leb-true, ltb-true}
use Rattle.vt_elf.proofs.LoadingLemmas.{put_byte}
use Rattle.vt_elf.proofs.loading.put.Goals as goal

pub returns : goal.returns
returns c k below =
    let s = c.args.segment.now in
    let both : (leb c.args.base s.address && ltb s.address (c.args.base + length c.args.memory.now)) ≡ true = sym c.begins_within.ensures ∙ c.if-not-begins_within.false in
    let parts = and_parts _ _ both in
    let from : c.args.base ≤ s.address = leb-true _ _ parts.0 in
    let to : s.address < c.args.base + length c.args.memory.now = ltb-true _ _ parts.1 in
    let fits : s.address + s.file_size ≤ c.args.base + length c.args.memory.now = c.requires.apart.inside from to in
    let whole : s.offset + s.file_size ≤ length c.args.bytes.now = c.requires.apart.in_file in
    put_byte c.args.bytes.now c.args.memory.now c.copy_from_slice.new.self s c.args.base (s.address - c.args.base) (((s.address - c.args.base) + s.file_size) - (s.address - c.args.base)) k from refl (omega arith) (omega arith) (omega arith) c.copy_from_slice.ensures.after
