use Rattle.std.proofs.Common.{refl}
use Rattle.lexer.specs.CTokens.{nothing}
use Rattle.lexer.proofs.CarryLemmas.{all_read}
use Rattle.lexer.proofs.lexing.Stored.end.Goals as goal

pub returns-clause-ok : goal.returns-clause-ok
returns-clause-ok c old total q = all_read old c.close.new.names c.close.new.self total c.in_ok-close.ensures.none (c.in_ok-close.ensures.ok old nothing total refl q)
