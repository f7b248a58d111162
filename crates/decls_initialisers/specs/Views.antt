-- The models of the code's values.
use Rattle.std.specs.Prelude.{ℕ, Option, Some, None}
use Rattle.srcset.specs.declared.refusal.Pos.{Pos}
use Rattle.tree.specs.Tree.{Tree, string}
use Rattle.typing_spec.specs.Initialisers as typed
use Rattle.decls_initialisers.specs.declared.forms.Wanted.{Wanted}
use Rattle.decls_initialisers.specs.declared.forms.Wanted.TheVariants as held

abbrev pub wanted_of : Wanted → typed.Wanted
wanted_of held.Number = typed.one_number
wanted_of (held.Array room lengths) = typed.an_array room lengths.now

-- a string literal by its place and its text
abbrev pub option_string : Option (Pos × ℕ) → Option Tree
option_string None = None
option_string (Some x) = Some (string x.0 x.1)
