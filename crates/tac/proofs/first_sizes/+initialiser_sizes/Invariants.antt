use Rattle.std.proofs.Common.{◌≡◌, map, drop}
use Rattle.typed_ast.specs.View.{initialiser_of, initialisers_of}
use Rattle.lower_ops.specs.layer.Parts.{plus}
use Rattle.tac.specs.inside.FirstSizes.{fill_all_size}
use Rattle.tac.proofs.first_sizes.+initialiser_sizes.Given as goal

abbrev pub invariant-fill_all_size-loop-initialiser : goal.invariant-fill_all_size-loop-initialiser
invariant-fill_all_size-loop-initialiser l =
    plus l.size (fill_all_size (map (λ text. text.items) l.literals) (initialisers_of (map initialiser_of (drop l.initialiser-index l.all))) l.left l.lengths)
    ≡ fill_all_size (map (λ text. text.items) l.literals) (initialisers_of (map initialiser_of l.all)) l.count l.lengths
