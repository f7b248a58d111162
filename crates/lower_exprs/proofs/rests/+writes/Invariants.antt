use Rattle.std.proofs.Common.{◌≡◌, map, take}
use Rattle.typed_ast.specs.View.{arguments_of, argument_of}
use Rattle.lower_correct.specs.Values as values
use Rattle.lower_exprs.proofs.rests.+writes.Given as goal

abbrev pub invariant-arguments_write-loop-argument : goal.invariant-arguments_write-loop-argument
invariant-arguments_write-loop-argument l = l.some ≡ values.arguments_write (arguments_of (map argument_of (take l.argument-index l.arguments))) l.object
