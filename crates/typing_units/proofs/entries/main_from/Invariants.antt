use Rattle.std.proofs.Common.{◌≡◌, drop, map}
use Rattle.typed_ast.specs.View.{function_of}
use Rattle.typing_scopes.specs.Scopes.{with_texts}
use Rattle.typing_spec.specs.Units.{main_from}
use Rattle.typing_units.proofs.entries.main_from.Given as goal

abbrev pub invariant-loop-number : goal.invariant-loop-number
invariant-loop-number l = main_from (with_texts l.names l.scope) 0 (map function_of l.functions) ≡ main_from (with_texts l.names l.scope) l.number (map function_of (drop l.number l.functions))
