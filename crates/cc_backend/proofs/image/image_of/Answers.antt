use Rattle.std.proofs.Common.{◌≤◌, ◌+◌, List, length, subst, sym, arith}
use Rattle.std.specs.Vec.{vec_len}
use Rattle.memory_map.specs.MemoryMap.{text_start, max_image}
use Rattle.elf_out.specs.Layout.{Parts}
use Rattle.asm.specs.declared.item.Item.{Item}
use Rattle.asm.specs.Layout.{IsLow, longest}
use Rattle.frames_code.specs.Code as flat
use Rattle.select.specs.Program.{program_items}
use Rattle.cc_backend.proofs.Images.{short_text}
use Rattle.cc_backend.proofs.Bounds.{is_low}
use Rattle.cc_backend.proofs.image.image_of.Goals as goal

pub assemble-requires-clause-low : goal.assemble-requires-clause-low
assemble-requires-clause-low c =
    let f = flat.program_of c.args.program in
    subst (λ (xs : List Item). IsLow text_start xs) (sym c.requires.items) (is_low (program_items f) (length f.statics) c.requires.small)

pub unreachable-requires : goal.unreachable-requires
unreachable-requires c =
    let f = flat.program_of c.args.program in
    let short = short_text c.args.items.now (program_items f) (length c.in-Ok.text.items) c.requires.items c.in-Ok.ensures.size in
    let room : vec_len c.in-Ok.text + vec_len c.args.program.statics ≤ max_image = omega (arith, short, c.requires.small, c.in-Ok.text.ok, c.args.program.statics.ok) in
    absurd (let no = c.in-None.ensures.some.1 room in cc)

pub returns-clause-size : goal.returns-clause-size
returns-clause-size c =
    let f = flat.program_of c.args.program in
    let short = short_text c.args.items.now (program_items f) (length c.in-Ok.text.items) c.requires.items c.in-Ok.ensures.size in
    subst (λ (p : Parts). length p.text ≤ longest (program_items f)) (sym c.in-Some.ensures.value) short
