use Rattle.std.proofs.Common.{[]}
use Rattle.decls_declarators.proofs.Parameters.{kept_behind, left_behind}
use Rattle.decls_declarators.proofs.parameter_lists.behind_parameters.Goals as goal

pub returns : goal.returns
returns c = λ t outer ps types e b o.
    let k = kept_behind t outer c.args.scope.now ps types e in
    left_behind t outer c.args.scope.now c.outside.new.self c.change_objects.new.self _ k (c.outside.ensures outer k.names [] b k.bindings k.tags) c.change_objects.ensures.new o
