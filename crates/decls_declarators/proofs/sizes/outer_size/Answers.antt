use Rattle.decls_declarators.proofs.Lengths.{outer_known}
use Rattle.decls_declarators.proofs.sizes.outer_size.Goals as goal

pub returns-in-Some-clause-ok : goal.returns-in-Some-clause-ok
returns-in-Some-clause-ok c =
    outer_known c.size_past.result c.args.names.now c.args.scope.now c.size_past.new.scope c.args.pos c.args.size.now c.in-Some.e c.args.lengths.now.items c.size_past.new.lengths.items c.in-Some.is c.size_past.ensures.ok
