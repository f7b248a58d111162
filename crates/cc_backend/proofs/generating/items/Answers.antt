use Rattle.typed_ast.specs.View.{program_of}
use Rattle.memory_map.specs.MemoryMap.{text_start}
use Rattle.frames_code.specs.Code as flat
use Rattle.cc_backend.proofs.Generates.{reach, has_room, items_of}
use Rattle.cc_backend.proofs.generating.items.Goals as goal

pub code_image-requires-clause-reaches : goal.code_image-requires-clause-reaches
code_image-requires-clause-reaches c = reach (program_of c.args.program.now) (flat.program_of c.in_ok-code.code) c.requires.ready c.in_ok-code.ensures text_start

pub code_image-requires-clause-small : goal.code_image-requires-clause-small
code_image-requires-clause-small c = has_room (program_of c.args.program.now) (flat.program_of c.in_ok-code.code) c.requires.ready c.in_ok-code.ensures

pub returns-in-Ok : goal.returns-in-Ok
returns-in-Ok c = record {
  items = items_of (program_of c.args.program.now) (flat.program_of c.in_ok-code.code) c.requires.ready c.in_ok-code.ensures c.args.stack c.in-Ok.made.image c.in-Ok.made.items
      c.in-Ok.ensures.stack c.in-Ok.ensures.image c.in-Ok.ensures.fewest c.in-Ok.ensures.size c.in-Ok.ensures.items c.in-Ok.ensures.low;
}
