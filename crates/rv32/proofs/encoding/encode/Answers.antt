use Rattle.std.proofs.Common.{ap, ◌∙◌}
use Rattle.rv32.specs.Words.{decode_of}
use Rattle.rv32.proofs.Inverse.{decode_again}
use Rattle.rv32.proofs.encoding.encode.Goals as goal

pub returns-clause-decodes : goal.returns-clause-decodes
returns-clause-decodes c = ap decode_of c.by_format.ensures.word ∙ decode_again _ c.by_format.ensures.range
