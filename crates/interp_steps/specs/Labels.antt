-- The result of the code's search for the labels of a switch (6.8.4.2).
use Rattle.std.specs.Prelude.{ℤ, List, [], ◌∷◌, ◌+◌, ◌-◌, ◌<◌, ◌^◌, length, map, Option, Some, None, ⊤}
use Rattle.std.specs.Borrow.{Bor}
use Rattle.typing_spec.specs.Types as type
use Rattle.typing_spec.specs.Program as typed
use Rattle.typed_ast.specs.declared.statements.Statement.{Statement}
use Rattle.typed_ast.specs.View.{statement_of, statements_of}
use Rattle.csem.specs.Machine.{State}
use Rattle.csem.specs.Statements.{Normal, labels_of}
use Rattle.interp_store.specs.layer.Frames as on
use Rattle.interp_store.specs.layer.Frames.{Moved, moves, enters, a_flow}
use Rattle.interp_store.specs.layer.Steps.{goes, waits, jumps}
use Rattle.interp_steps.specs.declared.labels.Label.{Label}
use Rattle.interp_steps.specs.declared.labels.Label.TheVariants as label
use Rattle.interp_steps.specs.declared.labels.Sought.{Sought}
use Rattle.interp_steps.specs.declared.labels.Sought.TheVariants as sought

abbrev pub label_kind : Label → List (Option ℤ)
label_kind (label.Case v) = Some v ∷ []
label_kind label.Default = None ∷ []
label_kind label.None = []

-- from a statement on
abbrev pub begins_at : List type.ObjectType → Option (Bor Statement × Bor (List Statement)) → State → Moved
begins_at objects None s = goes (a_flow Normal) s
begins_at objects (Some found) s = waits (on.rest objects (statements_of (map statement_of found.1.now))) (on.statement objects (statement_of found.0.now)) s

abbrev pub comes_to : List type.ObjectType → ℤ → typed.Statements → Sought → State → Moved
comes_to objects v all (sought.Test c more n default) s =
    moves [] (enters (on.case_test objects v c (labels_of (statements_of (map statement_of more.now))) n default all)) s
comes_to objects v all (sought.Jump label) s = jumps objects label all s

-- the number of a case that is tested and those of the labels after it are numbers that memory has
abbrev pub HasRoom : Sought → Type 0
HasRoom (sought.Test c more n default) = n + length more.now < 2 ^ 64 - 1
HasRoom (sought.Jump label) = ⊤
