use Rattle.std.proofs.Common.{◌<◌, length, map}
use Rattle.tree.specs.View.{specifier_of}
use Rattle.parser_declarations.proofs.SpecifierLists.{SpecifiersLoop}
use Rattle.parser_declarations.proofs.specifiers.declaration_specifiers.Given as goal

abbrev pub invariant-loop-alloc : goal.invariant-loop-alloc
invariant-loop-alloc l = record {
  shorter : length l.rest < length l.tokens;
  read : SpecifiersLoop l.scope l.depth l.tokens (map specifier_of l.list.items) l.deepest l.rest;
}

abbrev pub decreases-loop-alloc : goal.decreases-loop-alloc
decreases-loop-alloc l = length l.rest
