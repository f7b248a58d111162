use Rattle.std.proofs.Common.{List, sym, subst, length}
use Rattle.memory_map.specs.MemoryMap.{text_start}
use Rattle.asm.specs.declared.item.Item.{Item}
use Rattle.asm.specs.Layout.{IsLow}
use Rattle.frames_code.specs.Code as flat
use Rattle.select.specs.Program.{program_items}
use Rattle.cc_backend.proofs.Bounds.{is_low}
use Rattle.cc_backend.proofs.image.code_image.Goals as goal

pub returns-clause-low : goal.returns-clause-low
returns-clause-low c =
    let f = flat.program_of c.args.program in
    subst (λ (xs : List Item). IsLow text_start xs) (sym c.in_ok-items.ensures) (is_low (program_items f) (length f.statics) c.requires.small)
