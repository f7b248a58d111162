use Rattle.phases.proofs.ClosingLemmas.{hopeless_literal}
use Rattle.std.proofs.Common.{true, arith}
use Rattle.phases.specs.inside.Lexical.{enclosed}
use Rattle.phases.proofs.LexicalLemmas.{prefixed}
use Rattle.phases.proofs.cursor.Cursor.character.Goals as goal

pub returns : goal.returns
returns c =
    prefixed c.args.self c.character_prefix-prefix.result c.in-Some.tail _ (λ bs. enclosed 39 39 1 true bs) c.character_prefix-prefix.ensures c.in-Some.ensures

pub returns-then-prefix-hopeless : goal.returns-then-prefix-hopeless
returns-then-prefix-hopeless c =
    hopeless_literal 39 1 c.args.hopeless _ _ c.requires (omega (arith, c.character_prefix-prefix.ensures.count_is))
