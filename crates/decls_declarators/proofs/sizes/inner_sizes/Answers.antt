use Rattle.std.proofs.Common.{map, arith}
use Rattle.tree.specs.View.{option_tree}
use Rattle.decls_declarators.proofs.Lengths.{begun, step, stops, ended}
use Rattle.decls_declarators.proofs.sizes.inner_sizes.Goals as goal

pub loop-size-init : goal.loop-size-init
loop-size-init c = begun c.args.names.now c.args.pos c.args.scope.now (map option_tree c.args.sizes.now) c.args.lengths.now.items

pub loop-size-preserved : goal.loop-size-preserved
loop-size-preserved c =
    step c.args.names.now c.args.pos c.args.scope.now c.loop-size.scope c.inner_size.new.scope (map option_tree c.args.sizes.now) c.args.sizes.now c.loop-size.size-index c.size-item.result c.args.lengths.now.items
    c.loop-size.lengths.items c.inner_size.new.lengths.items c.in-Ok.ensures.ok.0 c.loop-size-test.true c.size-item.is c.loop-size.invariant c.in-Ok.ensures.ok.1 c.in-Ok.ensures.ok.2 c.in-Ok.ensures.ok.3

pub returns-in-Err-clause-err : goal.returns-in-Err-clause-err
returns-in-Err-clause-err c =
    stops c.args.names.now c.args.pos c.args.scope.now c.loop-size.scope (map option_tree c.args.sizes.now) c.args.sizes.now c.loop-size.size-index c.size-item.result c.args.lengths.now.items c.loop-size.lengths.items
    c.in-Err.refusal c.loop-size-test.true c.size-item.is c.loop-size.invariant c.in-Err.ensures.err

pub returns-clause-ok : goal.returns-clause-ok
returns-clause-ok c =
    ended c.args.names.now c.args.pos c.args.scope.now c.loop-size.scope (map option_tree c.args.sizes.now) c.args.sizes.now c.loop-size.size-index c.args.lengths.now.items c.loop-size.lengths.items
    (omega (arith, c.loop-size-test.false)) c.loop-size.invariant
