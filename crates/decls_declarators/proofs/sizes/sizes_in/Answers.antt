use Rattle.decls_declarators.proofs.Lengths.{sizes_positive}
use Rattle.decls_declarators.proofs.sizes.sizes_in.Goals as goal

pub returns-in-Ok-inner_sizes-clause-positive : goal.returns-in-Ok-inner_sizes-clause-positive
returns-in-Ok-inner_sizes-clause-positive c =
    sizes_positive c.args.names.now c.args.scope.now c.outer_size.new.scope c.args.pos c.in-Some.first.now c.in-Some.rest.now c.in-Ok.ensures.ok.0 c.in-Ok-inner_sizes.ensures.ok.0 c.new-lengths.result.items
    c.outer_size.new.lengths.items c.inner_sizes.new.lengths.items c.new-lengths.ensures.items c.in-Ok.ensures.ok.2 c.in-Ok-inner_sizes.ensures.ok.2 c.in-Ok.ensures.ok.1 c.in-Ok-inner_sizes.ensures.ok.1
