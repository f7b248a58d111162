-- The models of the code's types of statements.
use Rattle.std.specs.Prelude.{◌≡◌, ◌++◌, List, [], map, Option}
use Rattle.typed_ast.specs.declared.statements.Statement.{Statement}
use Rattle.typed_ast.specs.declared.expressions.Value.{Value}
use Rattle.typed_ast.specs.View.{statement_of, statements_of, option_value}
use Rattle.typing_statements.specs.declared.surroundings.Around.{Around}
use Rattle.typing_statements.specs.declared.labels.Label.{Label}
use Rattle.typing_units.specs.declared.first_values.Initial.{Initial}
pub use Rattle.typing_units.specs.Views.{initial_of}
pub use Rattle.typing_declarations.specs.Views.{effects_of, declared_of}
use Rattle.typing_spec.specs.Verdict.{Verdict, fine}
use Rattle.typing_spec.specs.Scope.{Scope}
use Rattle.typing_spec.specs.Statements as typed

abbrev pub around_of : Around → typed.Around
around_of a = record { result = a.result; in_loop = a.in_loop; in_switch = a.in_switch }

abbrev pub label_of : Label → typed.Label
label_of l = record { at = l.pos; value = l.value }

-- a statement with the labels before it, the scope after it and the first values of the static objects in it
abbrev pub done_of : Scope → List Label → List Initial → Statement → typed.Done
done_of s ms js x = record { labels = map label_of ms; statement = statement_of x; scope = s; initial = map initial_of js }

-- the same of the items of a block
abbrev pub all_done_of : Scope → List Label → List Initial → List Statement → typed.AllDone
all_done_of s ms js xs = record { labels = map label_of ms; statements = statements_of (map statement_of xs); scope = s; initial = map initial_of js }

-- the first part of a for
abbrev pub start_of : Scope → List Statement → List Initial → Option Value → typed.Start
start_of s xs js v = record { effects = effects_of xs js; first = option_value v; scope = s }

-- a statement without labels, its first values appended to those before
abbrev pub Unlabelled : Verdict typed.Done → (before after : List Initial) → Scope → Statement → Type 0
Unlabelled v before after s x = (js : List Initial) × (after ≡ before ++ js) × (v ≡ fine (done_of s [] js x))

-- a statement, its labels and its first values appended to those before
abbrev pub Labelled : Verdict typed.Done → (labels new_labels : List Label) → (before after : List Initial) → Scope → Statement → Type 0
Labelled v labels new_labels before after s x = (ms : List Label) × (js : List Initial) × (new_labels ≡ labels ++ ms) × (after ≡ before ++ js) × (v ≡ fine (done_of s ms js x))
