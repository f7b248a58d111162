use Rattle.std.proofs.Common.{◌<◌, ◌+◌, length, ◌*◌, map}
use Rattle.tree.specs.View.{tree_of}
use Rattle.parser_expressions.proofs.Spine.{Loop}
use Rattle.parser_expressions.proofs.Postfix.{Growing}
use Rattle.parser_expressions.proofs.Arguments.{ArgumentsLoop}
use Rattle.parser_expressions.proofs.TypeNames.{SizesLoop}
use Rattle.parser_expressions.proofs.expressions.+expressions.Given as goal

abbrev pub decreases-primary : goal.decreases-primary
decreases-primary l = 16 * length l.tokens.now + 1

abbrev pub decreases-postfix : goal.decreases-postfix
decreases-postfix l = 16 * length l.tokens.now + 2

abbrev pub decreases-unary : goal.decreases-unary
decreases-unary l = 16 * length l.tokens.now + 3

abbrev pub decreases-cast : goal.decreases-cast
decreases-cast l = 16 * length l.tokens.now + 4

abbrev pub decreases-binary : goal.decreases-binary
decreases-binary l = 16 * length l.tokens.now + 5

abbrev pub decreases-read_conditional : goal.decreases-read_conditional
decreases-read_conditional l = 16 * length l.tokens.now + 6

abbrev pub decreases-read_assignment : goal.decreases-read_assignment
decreases-read_assignment l = 16 * length l.tokens.now + 7

abbrev pub decreases-read_expression : goal.decreases-read_expression
decreases-read_expression l = 16 * length l.tokens.now + 8

abbrev pub decreases-read_arguments : goal.decreases-read_arguments
decreases-read_arguments l = 16 * length l.tokens.now + 9

abbrev pub decreases-type_name : goal.decreases-type_name
decreases-type_name l = 16 * length l.tokens.now + 9

abbrev pub decreases-sizeof : goal.decreases-sizeof
decreases-sizeof l = 16 * length l.tokens.now + 10

abbrev pub invariant-read_expression-loop-pos : goal.invariant-read_expression-loop-pos
invariant-read_expression-loop-pos l = record {
  shorter : length l.left.rest.now < length l.tokens;
  read : Loop 1 0 l.depth l.tokens (tree_of l.left.expr.value) l.left.depth l.left.rest.now;
}

abbrev pub decreases-read_expression-loop-pos : goal.decreases-read_expression-loop-pos
decreases-read_expression-loop-pos l = length l.left.rest.now

abbrev pub invariant-binary-loop-pos : goal.invariant-binary-loop-pos
invariant-binary-loop-pos l = record {
  shorter : length l.left.rest.now < length l.tokens;
  read : Loop 13 l.min l.depth l.tokens (tree_of l.left.expr.value) l.left.depth l.left.rest.now;
}

abbrev pub decreases-binary-loop-pos : goal.decreases-binary-loop-pos
decreases-binary-loop-pos l = length l.left.rest.now

abbrev pub invariant-postfix-loop-pos : goal.invariant-postfix-loop-pos
invariant-postfix-loop-pos l = record {
  shorter : length l.left.rest.now < length l.tokens;
  read : Growing l.depth l.tokens (tree_of l.left.expr.value) l.left.depth l.left.rest.now;
}

abbrev pub decreases-postfix-loop-pos : goal.decreases-postfix-loop-pos
decreases-postfix-loop-pos l = length l.left.rest.now

abbrev pub invariant-read_arguments-loop-after : goal.invariant-read_arguments-loop-after
invariant-read_arguments-loop-after l = record {
  shorter : length l.rest < length l.tokens;
  read : ArgumentsLoop l.depth l.tokens (map tree_of l.list.items) l.deepest l.rest;
}

abbrev pub decreases-read_arguments-loop-after : goal.decreases-read_arguments-loop-after
decreases-read_arguments-loop-after l = length l.rest

abbrev pub invariant-type_name-loop-inner : goal.invariant-type_name-loop-inner
invariant-type_name-loop-inner l = record {
  shorter : length l.rest < length l.tokens;
  read : SizesLoop l.depth l.tokens l.first.specifiers.pos l.first.specifiers.list.items (map tree_of l.sizes.items) l.deepest l.rest;
}

abbrev pub decreases-type_name-loop-inner : goal.decreases-type_name-loop-inner
decreases-type_name-loop-inner l = length l.rest
