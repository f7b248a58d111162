-- The effect of the tokens after `# define` and `# undef` on the macros, and their faults (ISO/IEC 9899:2011 6.10.3, 6.10.3.5).
use Rattle.std.specs.Prelude.{ℕ, suc, List, [], ◌∷◌, ◌++◌, length, Bool, true, false, not, ◌&&◌, ◌||◌, nat_lt, nat_le, Option, Some, None, is_some, Result, Ok, Err, codes, if◌then◌else◌}
use Rattle.std.specs.List.{list_any}
use Rattle.std.specs.Str.{bytes_eq}
use Rattle.srcset.specs.declared.code.Code.{Code}
use Rattle.srcset.specs.declared.code.Code.TheVariants as code
use Rattle.phases.specs.Token.{Token}
use Rattle.macros.specs.Macro.{Parameters, Macro, Macros, macro_named, is_reserved, is_identifier, is_spelled, is_hash, is_joint}

-- ---- reading

-- the names of a parameter list after its `(`, whether an ellipsis ends it, and the tokens after its `)`
pub record Head : Type 0 where
  pub names : List (List ℕ)
  pub variadic : Bool
  pub rest : List Token

-- one more name in front, which the others may not have (6.10.3p6)
abbrev pub with_name : List ℕ → Option Head → Option Head
with_name name None = None
with_name name (Some head) =
    if list_any (bytes_eq name) head.names then None else Some (record head { names = name ∷ head.names })

-- an ellipsis, then `)`; or a name, then `)`, or `,` and so on
abbrev pub names_from : List Token → Option Head
names_from [] = None
names_from (x ∷ []) = None
names_from (x ∷ y ∷ rest) =
    if is_spelled (codes "...") x
    then if is_spelled (codes ")") y then Some (record { names = []; variadic = true; rest = rest }) else None
    else if not (is_identifier x) then None
    else if is_spelled (codes ")") y then Some (record { names = x.spelling ∷ []; variadic = false; rest = rest })
    else if is_spelled (codes ",") y then with_name x.spelling (names_from rest)
    else None

abbrev pub head_of : List Token → Option Head
head_of [] = None
head_of (x ∷ rest) =
    if is_spelled (codes ")") x then Some (record { names = []; variadic = false; rest = rest }) else names_from (x ∷ rest)

abbrev pub function_like : Option Head → Option Macro
function_like None = None
function_like (Some head) =
    Some (record { parameters = Some (record { names = head.names; variadic = head.variadic }); body = head.rest })

-- the tokens after the name: a `(` directly after it begins parameters (6.10.3p10); else white space precedes a replacement list (6.10.3p3)
abbrev pub macro_of : List Token → Option Macro
macro_of [] = Some (record { parameters = None; body = [] })
macro_of (x ∷ rest) =
    if x.space_before then Some (record { parameters = None; body = x ∷ rest })
    else if is_spelled (codes "(") x then function_like (head_of rest)
    else None

-- ---- faults

abbrev pub identifiers_of : Option Parameters → List (List ℕ)
identifiers_of None = []
identifiers_of (Some p) = p.names

-- the name or a parameter is reserved (6.10.3p5, 6.10.8p4)
abbrev pub has_reserved : List ℕ → Macro → Bool
has_reserved name macro = list_any is_reserved (name ∷ identifiers_of macro.parameters)

abbrev pub is_variadic : Option Parameters → Bool
is_variadic None = false
is_variadic (Some p) = p.variadic

-- __VA_ARGS__ appears in the replacement list of a macro without an ellipsis (6.10.3p5)
abbrev pub is_variable_outside : Macro → Bool
is_variable_outside macro = not (is_variadic macro.parameters) && list_any (is_spelled (codes "__VA_ARGS__")) macro.body

-- the names that denote an argument in the replacement list: the parameters, and __VA_ARGS__ as if it were the last of them where an ellipsis ends them
-- (6.10.3.1p2)
abbrev pub with_variable : Bool → List (List ℕ) → List (List ℕ)
with_variable false names = names
with_variable true names = names ++ codes "__VA_ARGS__" ∷ []

abbrev pub names_of : Option Parameters → List (List ℕ)
names_of None = []
names_of (Some p) = with_variable p.variadic p.names

-- the place of a name among names
abbrev pub next_number : Option ℕ → Option ℕ
next_number None = None
next_number (Some i) = Some (suc i)

abbrev pub number_among : List ℕ → List (List ℕ) → Option ℕ
number_among name [] = None
number_among name (n ∷ ns) = if bytes_eq name n then Some 0 else next_number (number_among name ns)

-- which of these parameters a token names
abbrev pub parameter_among : List (List ℕ) → Token → Option ℕ
parameter_among names x = if is_identifier x then number_among x.spelling names else None

abbrev pub is_parameter : List (List ℕ) → Token → Bool
is_parameter names x = is_identifier x && list_any (bytes_eq x.spelling) names

-- a `#` that is not followed by a parameter (6.10.3.2p1)
abbrev pub has_lone_hash : List (List ℕ) → List Token → Bool
has_lone_hash names [] = false
has_lone_hash names (x ∷ []) = is_hash x
has_lone_hash names (x ∷ y ∷ rest) = (is_hash x && not (is_parameter names y)) || has_lone_hash names (y ∷ rest)

-- which matters in function-like macros alone
abbrev pub is_hash_wrong : Macro → Bool
is_hash_wrong macro = is_some macro.parameters && has_lone_hash (names_of macro.parameters) macro.body

abbrev pub begins_with_joint : List Token → Bool
begins_with_joint [] = false
begins_with_joint (x ∷ rest) = is_joint x

abbrev pub ends_with_joint : List Token → Bool
ends_with_joint [] = false
ends_with_joint (x ∷ []) = is_joint x
ends_with_joint (x ∷ y ∷ rest) = ends_with_joint (y ∷ rest)

-- `##` at an end (6.10.3.3p1)
abbrev pub is_joint_wrong : Macro → Bool
is_joint_wrong macro = begins_with_joint macro.body || ends_with_joint macro.body

abbrev pub same_names : List (List ℕ) → List (List ℕ) → Bool
same_names [] [] = true
same_names (a ∷ as') (b ∷ bs) = bytes_eq a b && same_names as' bs
same_names _ _ = false

abbrev pub both_or_neither : Bool → Bool → Bool
both_or_neither true b = b
both_or_neither false b = not b

abbrev pub same_parameters : Option Parameters → Option Parameters → Bool
same_parameters None None = true
same_parameters (Some p) (Some q) = same_names p.names q.names && both_or_neither p.variadic q.variadic
same_parameters _ _ = false

abbrev pub same_mark : Token → Token → Bool
same_mark x y = both_or_neither x.space_before y.space_before

-- the same spellings, and white space before the same tokens
abbrev pub same_tokens : List Token → List Token → Bool
same_tokens [] [] = true
same_tokens (x ∷ xs) (y ∷ ys) = bytes_eq x.spelling y.spelling && same_mark x y && same_tokens xs ys
same_tokens _ _ = false

-- white space before the list is no part of it (6.10.3p7)
abbrev pub same_body : List Token → List Token → Bool
same_body [] [] = true
same_body (x ∷ xs) (y ∷ ys) = bytes_eq x.spelling y.spelling && same_tokens xs ys
same_body _ _ = false

-- 6.10.3p1, p2
abbrev pub is_same : Macro → Macro → Bool
is_same old new = same_parameters old.parameters new.parameters && same_body old.body new.body

abbrev pub differs : Option Macro → Macro → Bool
differs None new = false
differs (Some old) new = not (is_same old new)

abbrev pub max_macros : ℕ
max_macros = 65536

abbrev pub max_parameters : ℕ
max_parameters = 127

-- the code of the first test that holds
abbrev pub first_of : List (Bool × Code) → Option Code
first_of [] = None
first_of (test ∷ tests) = if test.0 then Some test.1 else first_of tests

-- the fault of a macro of this name
abbrev pub fault_of : Macros → List ℕ → Macro → Option Code
fault_of macros name macro =
    first_of (
    (has_reserved name macro, code.ReservedMacroName) ∷
    (is_variable_outside macro, code.VariableArgumentsOutside) ∷
    (is_hash_wrong macro, code.HashWithoutParameter) ∷
    (is_joint_wrong macro, code.PasteAtAnEnd) ∷
    (nat_lt max_parameters (length (names_of macro.parameters)), code.MacroParameterLimit) ∷
    (differs (macro_named macros name) macro, code.MacroRedefined) ∷
    (not (is_some (macro_named macros name)) && nat_le max_macros (length macros), code.MacroLimit) ∷ [])

-- ---- the effect on the macros

abbrev pub with_macro : Macros → List ℕ → Macro → Macros
with_macro macros name macro = if is_some (macro_named macros name) then macros else macros ++ (name, macro) ∷ []

abbrev pub unless_fault : Option Code → Macros → Result Macros Code
unless_fault None macros = Ok macros
unless_fault (Some c) macros = Err c

abbrev pub with_read : Macros → List ℕ → Option Macro → Result Macros Code
with_read macros name None = Err code.BadMacroDefinition
with_read macros name (Some macro) = unless_fault (fault_of macros name macro) (with_macro macros name macro)

-- the tokens after `# define`
abbrev pub define : Macros → List Token → Result Macros Code
define macros [] = Err code.BadMacroDefinition
define macros (name ∷ rest) =
    if is_identifier name then with_read macros name.spelling (macro_of rest) else Err code.BadMacroDefinition

abbrev pub without : Macros → List ℕ → Macros
without [] name = []
without (m ∷ ms) name = if bytes_eq m.0 name then ms else m ∷ without ms name

-- an identifier after `# undef`
abbrev pub undefine : Macros → Token → Result Macros Code
undefine macros name = if is_reserved name.spelling then Err code.ReservedMacroName else Ok (without macros name.spelling)
