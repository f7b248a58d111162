use Rattle.std.proofs.Common.{sym, subst}
use Rattle.typed_ast.specs.View.{program_of}
use Rattle.memory_map.specs.MemoryMap.{text_start}
use Rattle.asm.specs.Layout.{AllReach}
use Rattle.frames_code.specs.Code as flat
use Rattle.cc_backend.proofs.Generates.{reach, has_room, is_file, runs_with}
use Rattle.cc_backend.proofs.generating.generate_listed.Goals as goal

pub code_image-requires-clause-reaches : goal.code_image-requires-clause-reaches
code_image-requires-clause-reaches c = reach (program_of c.args.program.now) (flat.program_of c.in_ok-code.code) c.requires.ready c.in_ok-code.ensures text_start

pub code_image-requires-clause-small : goal.code_image-requires-clause-small
code_image-requires-clause-small c = has_room (program_of c.args.program.now) (flat.program_of c.in_ok-code.code) c.requires.ready c.in_ok-code.ensures

pub returns-in-Ok : goal.returns-in-Ok
returns-in-Ok c = record {
  runs = runs_with (program_of c.args.program.now) (flat.program_of c.in_ok-code.code) c.requires.ready c.in_ok-code.ensures c.args.stack c.in_ok-made.made.image c.in-Ok.elf.items c.in_ok-frames.frames.items
      c.in_ok-made.ensures.stack c.in_ok-made.ensures.image c.in_ok-frames.ensures c.in-Ok.ensures.image;
  is_file = is_file (program_of c.args.program.now) (flat.program_of c.in_ok-code.code) c.requires.ready c.in_ok-code.ensures c.args.stack c.in_ok-made.made.image c.in-Ok.elf.items c.in_ok-frames.frames.items
      c.in_ok-made.ensures.stack c.in_ok-made.ensures.image c.in_ok-made.ensures.fewest c.in_ok-made.ensures.size c.in_ok-frames.ensures c.in-Ok.ensures.bytes;
  items_are = c.in_ok-made.ensures.items;
  low = c.in_ok-made.ensures.low;
  reach = subst (AllReach text_start) (sym c.in_ok-made.ensures.items) (reach (program_of c.args.program.now) (flat.program_of c.in_ok-code.code) c.requires.ready c.in_ok-code.ensures text_start);
}
