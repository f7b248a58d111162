use Rattle.rv32.proofs.Tables.{only_word}
use Rattle.rv32.proofs.decoding.decode.Goals as goal

pub returns-clause-only : goal.returns-clause-only
returns-clause-only c = only_word _ _ c.by_opcode.ensures.value
