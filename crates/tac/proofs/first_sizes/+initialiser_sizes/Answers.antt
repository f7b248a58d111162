use Rattle.std.proofs.Common.{◌-◌, map, refl, arith}
use Rattle.typed_ast.specs.View.{initialiser_of, initialisers_of}
use Rattle.tac.specs.inside.FirstSizes.{fill_all_size}
use Rattle.tac.proofs.Filled.{all_counts}
use Rattle.tac.proofs.Counted.{next_counted}
use Rattle.tac.proofs.first_sizes.+initialiser_sizes.Goals as goal

pub fill_all_size-loop-initialiser-init : goal.fill_all_size-loop-initialiser-init
fill_all_size-loop-initialiser-init t c =
    all_counts (map (λ text. text.items) c.args.literals.now) (initialisers_of (map initialiser_of c.args.all.now)) c.args.count c.args.lengths.now

pub fill_all_size-loop-initialiser-preserved : goal.fill_all_size-loop-initialiser-preserved
fill_all_size-loop-initialiser-preserved t c =
    next_counted (map (λ text. text.items) c.args.literals.now) c.args.lengths.now initialiser_of initialisers_of (λ i is. refl) c.args.all.now
    c.loop-initialiser.initialiser-index c.initialiser-item.result c.loop-initialiser-test.true c.initialiser-item.is
    (fill_all_size (map (λ text. text.items) c.args.literals.now) (initialisers_of (map initialiser_of c.args.all.now)) c.args.count c.args.lengths.now)
    c.loop-initialiser.size c.fills_size.result c.plus-size.result c.loop-initialiser.left (c.loop-initialiser.left - 1) c.loop-initialiser.invariant
    c.fills_size.ensures c.plus-size.ensures (omega (arith, c.if-left-eq0.false))
