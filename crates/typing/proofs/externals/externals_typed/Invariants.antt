use Rattle.std.proofs.Common.{◌≡◌, map}
use Rattle.tree.specs.View.{external_of}
use Rattle.typing_spec.specs.Units.{externals_typed}
use Rattle.typing_scopes.specs.Scopes.{with_texts}
use Rattle.typing_units.specs.Views.{built_of}
use Rattle.typing.proofs.externals.externals_typed.Given as goal

abbrev pub invariant-loop-external : goal.invariant-loop-external
invariant-loop-external l =
    externals_typed (built_of l.stack (with_texts l.names l.scope) l.functions.items l.initial'.items) (map external_of l.external-iterator.rest.items) ≡ externals_typed (built_of l.stack (with_texts l.names l.initial.scope) l.initial.functions.items l.initial.initial'.items) (map external_of l.fn.externals.items)
