use Rattle.typed_ast.specs.View.{program_of}
use Rattle.memory_map.specs.MemoryMap.{text_start}
use Rattle.frames_code.specs.Code as flat
use Rattle.cc_backend.proofs.Generates.{reach, has_room}
use Rattle.cc_backend.proofs.describing.code_map.Goals as goal

pub code_image-requires-clause-reaches : goal.code_image-requires-clause-reaches
code_image-requires-clause-reaches c = reach (program_of c.args.program.now) (flat.program_of c.in_ok-code.code) c.requires.ready c.in_ok-code.ensures text_start

pub code_image-requires-clause-small : goal.code_image-requires-clause-small
code_image-requires-clause-small c = has_room (program_of c.args.program.now) (flat.program_of c.in_ok-code.code) c.requires.ready c.in_ok-code.ensures
