-- The macros by the numbers of their names, as a table has them, and which macros these are where texts give the numbers
-- their meaning.
use Rattle.std.specs.Prelude.{◌≡◌, ℕ, suc, List, [], ◌∷◌, cond, map, length, slice_get, nat_eq, Bool, true, false, Option, Some, None, Result, Ok, Err}
use Rattle.std.specs.Borrow.{Bor}
use Rattle.std.specs.Map.{lookup}
use Rattle.srcset.specs.NameTable.{Texts}
use Rattle.srcset.specs.declared.code.Code.{Code}
use Rattle.srcset.specs.declared.code.Code.TheVariants as code
use Rattle.srcset.specs.declared.refusal.Pos.{Pos}
use Rattle.srcset.specs.declared.refusal.Refusal.{Refusal}
use Rattle.srcset.specs.declared.refusal.Refusal.TheVariants.{Memory, At, Told}
use Rattle.phases.specs.Token.{Token}
use Rattle.macros.specs.Macro.{Parameters, Macro, Macros, macro_named, is_reserved}
use Rattle.macros.specs.Definition.{define, undefine, names_of, parameter_among}

-- the parameters of a function-like macro, by the numbers of their names
pub record NumberedParameters : Type 0 where
  pub names : List ℕ
  pub variadic : Bool

-- a token of a replacement list, and the place among the parameters of the one that it names
pub record BodyToken : Type 0 where
  pub token : Token
  pub parameter : Option ℕ

pub record NumberedMacro : Type 0 where
  pub parameters : Option NumberedParameters
  pub body : List BodyToken

-- each macro under the number of its name
abbrev pub Table : Type 0
Table = List (ℕ × NumberedMacro)

-- the macro under a number
abbrev pub numbered : Table → ℕ → Option NumberedMacro
numbered table n = lookup (nat_eq n) table

-- ---- which macro it is

-- the numbers are those of these names, in order
abbrev pub AreNumbered : Texts → List ℕ → List (List ℕ) → Type 0
AreNumbered texts [] [] = Unit {0}
AreNumbered texts (n ∷ ns) (name ∷ names) = (slice_get texts n ≡ Some name) × AreNumbered texts ns names
AreNumbered texts _ _ = ⊥

abbrev pub AreParameters : Texts → Option NumberedParameters → Option Parameters → Type 0
AreParameters texts None None = Unit {0}
AreParameters texts (Some p) (Some q) = AreNumbered texts p.names q.names × (p.variadic ≡ q.variadic)
AreParameters texts _ _ = ⊥

abbrev pub with_parameter : List (List ℕ) → Token → BodyToken
with_parameter names x = record { token = x; parameter = parameter_among names x }

-- the names are these by their numbers; the same tokens, each with the parameter that it names
pub record IsMacro (texts : Texts) (n : NumberedMacro) (m : Macro) : Type 0 where
  pub parameters_are : AreParameters texts n.parameters m.parameters
  pub body_is : n.body ≡ map (with_parameter (names_of m.parameters)) m.body

abbrev pub AreSame : Texts → Option NumberedMacro → Option Macro → Type 0
AreSame texts None None = Unit {0}
AreSame texts (Some n) (Some m) = IsMacro texts n m
AreSame texts _ _ = ⊥

-- ---- which macros the table has

-- no two have one name
abbrev pub NamedOnce : Macros → Type 0
NamedOnce [] = Unit {0}
NamedOnce (m ∷ ms) = (macro_named ms m.0 ≡ None) × NamedOnce ms

-- under each text's number the table has the macro that the text names
pub record IsTable (texts : Texts) (table : Table) (macros : Macros) : Type 0 where
  pub known : (n : ℕ) (text : List ℕ) → slice_get texts n ≡ Some text → AreSame texts (numbered table n) (macro_named macros text)
  -- a text without a number names no macro
  pub unknown : (text : List ℕ) → ((n : ℕ) → slice_get texts n ≡ Some text → ⊥) → macro_named macros text ≡ None
  -- under a number without a text there is none
  pub within : (n : ℕ) → slice_get texts n ≡ None → numbered table n ≡ None
  pub once : NamedOnce macros
  pub count : length table ≡ length macros

-- ---- the result of a look-up by a text: a number and the table's entry under it

abbrev pub found_macro : Option (ℕ × Bor NumberedMacro) → Option (ℕ × NumberedMacro)
found_macro None = None
found_macro (Some found) = Some (found.0, found.1.now)

abbrev pub IsFound : Texts → List ℕ → Option (ℕ × NumberedMacro) → Option Macro → Type 0
IsFound texts text None None = Unit {0}
IsFound texts text (Some found) (Some m) = (slice_get texts found.0 ≡ Some text) × IsMacro texts found.1 m
IsFound texts text _ _ = ⊥

-- ---- the effect of definitions on it

-- the tokens after `# define` are a definition, and after it the table has the macros
pub record IsDefined (texts : Texts) (table : Table) (macros : Macros) (line : List Token) : Type 0 where
  pub after : Macros
  pub defined : define macros line ≡ Ok after
  pub table_is : IsTable texts table after

-- the table after a definition, whatever macros it had
abbrev pub Defines : Texts → Table → List Token → Texts → Table → Type 0
Defines texts table line texts_after table_after =
    (macros : Macros) → IsTable texts table macros → IsDefined texts_after table_after macros line

-- why the tokens are no definition, or out of memory
abbrev pub IsDefineRefusal : Macros → List Token → Pos → Refusal → Type 0
IsDefineRefusal macros line at Memory = Unit {0}
IsDefineRefusal macros line at (At c pos) = (define macros line ≡ Err c) × (pos ≡ at)
IsDefineRefusal macros line at (Told c pos text) = ⊥

-- the code of the fault of a definition
abbrev pub define_code : Macros → List Token → Option Code
define_code macros line = refused (define macros line)
  where
    refused : Result Macros Code → Option Code
    refused (Ok after) = None
    refused (Err c) = Some c

-- after `# undef` the table has the macros without that name
pub record IsUndefined (texts : Texts) (table : Table) (macros : Macros) (name : Token) : Type 0 where
  pub after : Macros
  pub undefined : undefine macros name ≡ Ok after
  pub table_is : IsTable texts table after

abbrev pub Undefines : Texts → Table → Token → Table → Type 0
Undefines texts table name table_after =
    (macros : Macros) → IsTable texts table macros → IsUndefined texts table_after macros name

-- the name may not be undefined, at this place
pub record IsUndefineRefusal (name : Token) (at : Pos) (refusal : Refusal) : Type 0 where
  pub refusal_is : refusal ≡ At code.ReservedMacroName at
  pub reserved : is_reserved name.spelling ≡ true
  pub undefined : (macros : Macros) → undefine macros name ≡ Err code.ReservedMacroName

-- ---- its parts

abbrev pub numbers_of : Option NumberedParameters → List ℕ
numbers_of None = []
numbers_of (Some p) = p.names

-- how many arguments a call has, an ellipsis taking one
abbrev pub places : NumberedParameters → ℕ
places p = cond p.variadic (suc (length p.names)) (length p.names)

abbrev pub is_variadic : Option NumberedParameters → Bool
is_variadic None = false
is_variadic (Some p) = p.variadic
