use Rattle.std.proofs.Common.{◌+◌, ◌*◌, ◌<◌, ◌^◌, map, drop}
use Rattle.typing_spec.specs.Types.{elements_in}
use Rattle.typed_ast.specs.View.{initialiser_of, initialisers_of}
use Rattle.tac.specs.inside.Scopes.{program_in, function_in}
use Rattle.tac.proofs.Filled.{Filling}
use Rattle.tac.proofs.initialisers.+fills.Given as goal

abbrev pub invariant-put_fill_all-loop-initialiser : goal.invariant-put_fill_all-loop-initialiser
invariant-put_fill_all-loop-initialiser l = record {
  inside : l.next.number + l.left * elements_in l.lengths < 2 ^ 32;
  filled : Filling (program_in l.scope) (function_in l.scope) (initialisers_of (map initialiser_of l.all)) l.count l.lengths l.fn.start
      (initialisers_of (map initialiser_of (drop l.initialiser-index l.all))) l.left l.next l.fn.code.list.items l.code.list.items;
}
