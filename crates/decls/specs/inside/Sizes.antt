-- The sizes that initialisers give, by the string literals that they are.
use Rattle.std.specs.Prelude.{ℕ, zero, suc, ◌+◌, Bool, true, false, length, Option, Some, None}
use Rattle.srcset.specs.declared.refusal.Pos.{Pos}
use Rattle.srcset.specs.declared.code.Code.TheVariants as code
use Rattle.tree.specs.Tree.{Tree, string, Init, init_hole, one_init, braced_init, Inits, no_inits, and_init}
use Rattle.typing_spec.specs.Verdict.{Verdict, fine, breaks}
use Rattle.typing_spec.specs.Scope.{Scope, literal_of}
use Rattle.typing_spec.specs.Initialisers.{count_of}

-- the string literal that an expression is, an initialiser, the one in braces
abbrev pub as_literal : Tree → Option ℕ
as_literal (string own n) = Some n
as_literal e = None

abbrev pub init_literal : Init → Option ℕ
init_literal init_hole = None
init_literal (one_init e) = as_literal e
init_literal (braced_init at parts) = None

abbrev pub alone_literal : Inits → Option ℕ
alone_literal no_inits = None
alone_literal (and_init i no_inits) = init_literal i
alone_literal (and_init i (and_init j js)) = None

-- at least one part
abbrev pub count_of_parts : Pos → ℕ → Verdict ℕ
count_of_parts at zero = breaks code.BadInitialiserForm at
count_of_parts at (suc n) = fine (suc n)

abbrev pub literal_size : Scope → Option ℕ → Verdict ℕ → Verdict ℕ
literal_size s None other = other
literal_size s (Some n) other = fine (length (literal_of s n) + 1)

abbrev pub list_size : Scope → Bool → Pos → Inits → Verdict ℕ
list_size s true at parts = literal_size s (alone_literal parts) (count_of_parts at (count_of parts))
list_size s false at parts = count_of_parts at (count_of parts)

abbrev pub text_size : Scope → Bool → Pos → Tree → Verdict ℕ
text_size s true at e = literal_size s (as_literal e) (breaks code.BadInitialiserForm at)
text_size s false at e = breaks code.BadInitialiserForm at
