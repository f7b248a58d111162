-- Macros by their names (ISO/IEC 9899:2011 6.10.3, 6.10.8).
use Rattle.std.specs.Prelude.{ℕ, List, [], ◌∷◌, Bool, true, false, ◌||◌, Option, codes}
use Rattle.std.specs.List.{list_any}
use Rattle.std.specs.Map.{lookup}
use Rattle.std.specs.Str.{bytes_eq}
use Rattle.phases.specs.declared.token.Kind.{Kind}
use Rattle.phases.specs.declared.token.Kind.TheVariants as kind
use Rattle.phases.specs.Token.{Token}

-- the parameters of a function-like macro; `variadic` where an ellipsis ends them (6.10.3p12)
pub record Parameters : Type 0 where
  pub names : List (List ℕ)
  pub variadic : Bool

-- a macro: its parameters where it is function-like (6.10.3p10), and its replacement list
pub record Macro : Type 0 where
  pub parameters : Option Parameters
  pub body : List Token

-- the macros that are defined, each under its name
abbrev pub Macros : Type 0
Macros = List (List ℕ × Macro)

abbrev pub macro_named : Macros → List ℕ → Option Macro
macro_named macros name = lookup (bytes_eq name) macros

-- the names of 6.10.8.1 to 6.10.8.3 that this profile has
abbrev pub predefined_names : List (List ℕ)
predefined_names =
    codes "__DATE__" ∷ codes "__FILE__" ∷ codes "__LINE__" ∷ codes "__STDC__" ∷ codes "__STDC_HOSTED__" ∷
    codes "__STDC_VERSION__" ∷ codes "__TIME__" ∷ codes "__STDC_NO_ATOMICS__" ∷ codes "__STDC_NO_COMPLEX__" ∷
    codes "__STDC_NO_THREADS__" ∷ codes "__STDC_NO_VLA__" ∷ []

abbrev pub is_predefined : List ℕ → Bool
is_predefined name = list_any (bytes_eq name) predefined_names

-- a name that no macro and no parameter may have (6.10.8p4, 6.10.3p5)
abbrev pub is_reserved : List ℕ → Bool
is_reserved name =
    is_predefined name || bytes_eq name (codes "defined") || bytes_eq name (codes "__VA_ARGS__")

-- ---- tokens

abbrev pub is_identifier_kind : Kind → Bool
is_identifier_kind kind.Identifier = true
is_identifier_kind _ = false

abbrev pub is_identifier : Token → Bool
is_identifier x = is_identifier_kind x.kind

abbrev pub is_spelled : List ℕ → Token → Bool
is_spelled text x = bytes_eq x.spelling text

-- `#` and `##`, also as digraphs (6.4.6p3)
abbrev pub is_hash : Token → Bool
is_hash x = is_spelled (codes "#") x || is_spelled (codes "%:") x

abbrev pub is_joint : Token → Bool
is_joint x = is_spelled (codes "##") x || is_spelled (codes "%:%:") x
