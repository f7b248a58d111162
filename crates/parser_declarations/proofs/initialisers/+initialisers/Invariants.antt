use Rattle.std.proofs.Common.{◌<◌, ◌+◌, ◌*◌, length, map}
use Rattle.tree.specs.View.{init_of}
use Rattle.parser_declarations.proofs.InitFacts.{InitLoop}
use Rattle.parser_declarations.proofs.initialisers.+initialisers.Given as goal

abbrev pub decreases-initialiser : goal.decreases-initialiser
decreases-initialiser l = 2 * length l.tokens.now

abbrev pub decreases-initialiser_list : goal.decreases-initialiser_list
decreases-initialiser_list l = 2 * length l.tokens.now + 1

abbrev pub invariant-initialiser_list-loop-after : goal.invariant-initialiser_list-loop-after
invariant-initialiser_list-loop-after l = record {
  shorter : length l.rest < length l.tokens;
  read : InitLoop l.depth l.tokens (map init_of l.list.items) l.deepest l.rest;
}

abbrev pub decreases-initialiser_list-loop-after : goal.decreases-initialiser_list-loop-after
decreases-initialiser_list-loop-after l = length l.rest
