use Rattle.std.proofs.Common.{ℕ, List, length}
use Rattle.lexer.specs.declared.literals.Met.{Met}
use Rattle.lexer.specs.Literals.{elements}
use Rattle.lexer.specs.inside.Decoding.{IsDecoded}
use Rattle.lexer.proofs.literals.decode.Given as goal

abbrev pub invariant-loop-rest : goal.invariant-loop-rest
invariant-loop-rest l = (new : List ℕ) (after : Met) → IsDecoded l.bytes.items l.met (elements 0 l.rest) new after → IsDecoded l.initial.bytes.items l.fn.before (elements 0 l.fn.text) new after

abbrev pub decreases-loop-rest : goal.decreases-loop-rest
decreases-loop-rest l = length l.rest
