use Rattle.std.proofs.Common.{◌≤◌, drop}
use Rattle.decls_declarators.proofs.Parameters.{Left}
use Rattle.decls_declarators.proofs.parameter_lists.parameters_from.Given as goal

abbrev pub invariant-loop-parameter : goal.invariant-loop-parameter
invariant-loop-parameter l = record {
  few : l.references ≤ l.parameter-index;
  left : Left l.names l.initial.scope l.parameters l.types.items l.references l.scope (drop l.parameter-index l.parameters);
}
