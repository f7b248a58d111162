-- The operators `#` and `##` (ISO/IEC 9899:2011 6.10.3.2, 6.10.3.3).
use Rattle.std.specs.Prelude.{◌≡◌, ℕ, List, [], ◌∷◌, ◌++◌, ◌==◌, ◌||◌, Bool, true, false, Option, Some, None, Result, Ok, Err, if◌then◌else◌}
use Rattle.std.specs.List.{flat_map}
use Rattle.std.specs.Str.{byte}
use Rattle.srcset.specs.declared.refusal.Pos.{Pos}
use Rattle.srcset.specs.declared.refusal.Refusal.{Refusal}
use Rattle.srcset.specs.declared.refusal.Refusal.TheVariants.{Memory, At, Told}
use Rattle.srcset.specs.declared.code.Code.{Code}
use Rattle.srcset.specs.declared.code.Code.TheVariants as code
use Rattle.phases.specs.declared.token.Kind.{Kind}
use Rattle.phases.specs.declared.token.Kind.TheVariants as kind
use Rattle.phases.specs.Characters.{double_quote, backslash}
use Rattle.phases.specs.Grammar.{plain_kind}
use Rattle.phases.specs.Token.{Token}

-- ---- `#`

abbrev pub is_literal : Kind → Bool
is_literal kind.CharacterConstant = true
is_literal kind.StringLiteral = true
is_literal _ = false

-- within literals a backslash is put before each quote and backslash (6.10.3.2p2)
abbrev pub escaped : ℕ → List ℕ
escaped b = if (b == double_quote) || (b == backslash) then backslash ∷ b ∷ [] else b ∷ []

abbrev pub shown : Token → List ℕ
shown x = if is_literal x.kind then flat_map escaped x.spelling else x.spelling

-- white space between tokens becomes one space
abbrev pub shown_next : Token → List ℕ
shown_next x = if x.space_before then byte " " ∷ shown x else shown x

abbrev pub shown_behind : List Token → List ℕ
shown_behind [] = []
shown_behind (x ∷ xs) = shown_next x ++ shown_behind xs

-- white space before the first and after the last is dropped
abbrev pub shown_all : List Token → List ℕ
shown_all [] = []
shown_all (x ∷ xs) = shown x ++ shown_behind xs

abbrev pub string_text : List Token → List ℕ
string_text argument = double_quote ∷ shown_all argument ++ double_quote ∷ []

abbrev pub is_string_kind : Option Kind → Bool
is_string_kind (Some kind.StringLiteral) = true
is_string_kind _ = false

-- the string literal with this text, at a place
abbrev pub string_of : List ℕ → Pos → Result Token Code
string_of text at =
    if is_string_kind (plain_kind text)
    then Ok (record { kind = kind.StringLiteral; spelling = text; space_before = false; pos = at })
    else Err code.HashMakesNoString

-- the string literal of an argument, at a place
abbrev pub stringized : List Token → Pos → Result Token Code
stringized argument at = string_of (string_text argument) at

-- ---- `##`

abbrev pub joined_as : Option Kind → List ℕ → Bool → Pos → Result Token Code
joined_as None text space at = Err code.PasteMakesNoToken
joined_as (Some k) text space at = Ok (record { kind = k; spelling = text; space_before = space; pos = at })

-- the token that two make together, at a place; white space precedes it where it preceded the left one
abbrev pub pasted : Token → Token → Pos → Result Token Code
pasted left right at =
    joined_as (plain_kind (left.spelling ++ right.spelling)) (left.spelling ++ right.spelling) left.space_before at

-- ---- refusals

-- why there is none
abbrev pub code_of : Result Token Code → Option Code
code_of (Ok token) = None
code_of (Err c) = Some c

-- the operator refuses for this reason, at the place; or memory ran out
abbrev pub IsRefusalOf : Result Token Code → Pos → Refusal → Type 0
IsRefusalOf made at Memory = Unit {0}
IsRefusalOf made at (At c pos) = (made ≡ Err c) × (pos ≡ at)
IsRefusalOf made at (Told c pos text) = ⊥
