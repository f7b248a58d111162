use Rattle.std.proofs.Common.{◌<◌, length}
use Rattle.parser_expressions.proofs.TypeSpecifierFacts.{SpecifiersLoop}
use Rattle.parser_expressions.proofs.type_specifiers.type_specifiers.Given as goal

abbrev pub decreases-loop-rest : goal.decreases-loop-rest
decreases-loop-rest l = length l.rest

abbrev pub invariant-loop-rest : goal.invariant-loop-rest
invariant-loop-rest l = record {
  shorter : length l.rest < length l.tokens;
  read : SpecifiersLoop l.tokens l.list.items l.rest;
}
