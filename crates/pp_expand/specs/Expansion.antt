-- Macro replacement with rescanning, by hide sets (ISO/IEC 9899:2011 6.10.3, 6.10.3.4; the sets are Prosser's, which the
-- committee's paper X3J11/86-196 gives as the meaning of the text).
use Rattle.std.specs.Prelude.{ℕ, zero, suc, List, [], ◌∷◌, ◌++◌, map, length, Bool, true, false, not, ◌&&◌, nat_eq, nat_lt, Option, Some, None, Result, Ok, Err, codes, decimal, slice_get, if◌then◌else◌}
use Rattle.std.specs.Str.{bytes_eq}
use Rattle.srcset.specs.declared.refusal.Pos.{Pos}
use Rattle.srcset.specs.declared.code.Code.{Code}
use Rattle.srcset.specs.declared.code.Code.TheVariants as code
use Rattle.srcset.specs.NameTable.{Texts}
use Rattle.phases.specs.declared.token.Kind.{Kind}
use Rattle.phases.specs.declared.token.Kind.TheVariants as kind
use Rattle.phases.specs.Token.{Token}
use Rattle.macros.specs.Macro.{Parameters, Macro, Macros, macro_named, is_predefined, is_identifier, is_spelled}
use Rattle.macros.specs.Definition.{max_parameters, names_of}
use Rattle.macros_substitution.specs.Substitution.{◌>>=◌, Hidden, is_hidden, common, hiding, marked, Piece, Call, strings_made, sides, is_expanded, substituted}

-- where a list of tokens ends: with its run, with its directive, or with its argument
pub data Ending : Type 0 where
  of_run : Ending
  of_directive : Ending
  of_argument : Ending

-- the macros defined, and the texts by whose numbers places name their files
pub record Known : Type 0 where
  pub macros : Macros
  pub texts : Texts

-- the text with this number, empty where there is none
abbrev pub text_or_empty : Option (List ℕ) → List ℕ
text_or_empty None = []
text_or_empty (Some text) = text

abbrev pub text_of : Texts → ℕ → List ℕ
text_of texts n = text_or_empty (slice_get texts n)

-- ---- predefined macros (6.10.8), each one token

abbrev pub quoted : List ℕ → List ℕ
quoted text = codes "\"" ++ text ++ codes "\""

-- kind and spelling, at the place of the name
abbrev pub predefined_token : Known → List ℕ → Pos → Kind × List ℕ
predefined_token known name at =
    if bytes_eq name (codes "__LINE__") then (kind.Number, decimal at.line)
    else if bytes_eq name (codes "__FILE__") then (kind.StringLiteral, quoted (text_of known.texts at.file))
    else if bytes_eq name (codes "__DATE__") then (kind.StringLiteral, quoted (codes "Jan  1 1970"))
    else if bytes_eq name (codes "__TIME__") then (kind.StringLiteral, quoted (codes "00:00:00"))
    else if bytes_eq name (codes "__STDC_VERSION__") then (kind.Number, codes "201112L")
    else if bytes_eq name (codes "__STDC_HOSTED__") then (kind.Number, codes "0")
    else (kind.Number, codes "1")

-- a name that its token does not hide
abbrev pub is_live : Hidden → Bool
is_live x = is_identifier x.token && not (is_hidden x.token.spelling x.hides)

abbrev pub is_live_predefined : Hidden → Bool
is_live_predefined x = is_live x && is_predefined x.token.spelling

-- the macro that a token names, unless the token hides it
abbrev pub macro_at : Known → Hidden → Option Macro
macro_at known x = if is_live x then macro_named known.macros x.token.spelling else None

-- ---- arguments (6.10.3p11)

-- an argument and the comma before it
pub record Further : Type 0 where
  pub comma : Hidden
  pub argument : List Hidden

-- the arguments after a `(`, each with the commas that it holds between parentheses; the `)`, and the tokens that follow it
pub record Taken : Type 0 where
  pub first : List Hidden
  pub more : List Further
  pub close : Hidden
  pub rest : List Hidden

abbrev pub with_token : Hidden → Option Taken → Option Taken
with_token x None = None
with_token x (Some taken) = Some (record taken { first = x ∷ taken.first })

-- the first argument so far follows this comma
abbrev pub behind_comma : Hidden → Option Taken → Option Taken
behind_comma x None = None
behind_comma x (Some taken) =
    Some (record taken { first = []; more = record { comma = x; argument = taken.first } ∷ taken.more })

pub data Mark : Type 0 where
  opens : Mark
  closes : Mark
  separates : Mark
  other : Mark

abbrev pub mark_of : Token → Mark
mark_of x =
    if is_spelled (codes "(") x then opens
    else if is_spelled (codes ")") x then closes
    else if is_spelled (codes ",") x then separates
    else other

-- a token with `depth` parentheses open inside, and the tokens after it with the depth that it leaves
abbrev pub taken_with : Mark → ℕ → Hidden → List Hidden → (ℕ → Option Taken) → Option Taken
taken_with opens depth x rest next = with_token x (next (suc depth))
taken_with closes zero x rest next = Some (record { first = []; more = []; close = x; rest = rest })
taken_with closes (suc depth) x rest next = with_token x (next depth)
taken_with separates zero x rest next = behind_comma x (next zero)
taken_with separates (suc depth) x rest next = with_token x (next (suc depth))
taken_with other depth x rest next = with_token x (next depth)

unfoldable pub arguments_in : ℕ → List Hidden → Option Taken
arguments_in depth [] = None
arguments_in depth (x ∷ rest) = taken_with (mark_of x.token) depth x rest (λ d. arguments_in d rest)

-- the argument of an ellipsis: an argument and those after it, with the commas between them (6.10.3p12)
abbrev pub merged : List Hidden → List Further → List Hidden
merged first [] = first
merged first (m ∷ more) = first ++ m.comma ∷ merged m.argument more

-- one argument for each named parameter, and after them the ellipsis's, as far as there are enough arguments
abbrev pub with_merged : ℕ → List Hidden → List Further → List (List Hidden)
with_merged zero first more = merged first more ∷ []
with_merged (suc named) first [] = first ∷ []
with_merged (suc named) first (m ∷ more) = first ∷ with_merged named m.argument more

abbrev pub separated : Bool → ℕ → List Hidden → List Further → List (List Hidden)
separated false named first more = first ∷ map (λ m. m.argument) more
separated true named first more = with_merged named first more

-- where there are no parameters, one empty argument is none (6.10.3p4)
abbrev pub arguments_for : List (List ℕ) → List (List Hidden) → List (List Hidden)
arguments_for [] ([] ∷ []) = []
arguments_for names arguments = arguments

-- ---- the effect of a list that begins with this token

-- The name is replaced: the call, the names that its replacement hides in addition to its own, and the tokens that follow.
pub record Replacement : Type 0 where
  pub name : Hidden
  pub call : Call
  pub hides : List (List ℕ)
  pub rest : List Hidden

pub data Turn : Type 0 where
  stands : Turn
  refused : (c : Code) → Turn
  -- the token of a predefined macro takes its place
  predefined : Turn
  replaced : (r : Replacement) → Turn

-- an object-like macro's replacement hides the names that the name hides, and the name itself
abbrev pub object_turn : Hidden → Macro → List Hidden → Turn
object_turn x macro rest =
    replaced (record { name = x; call = record { macro = macro; at = x.token.pos; arguments = [] }; hides = x.token.spelling ∷ x.hides; rest = rest })

-- arguments for the named parameters alone, or too few or too many (6.10.3p4)
abbrev pub count_fault : Bool → ℕ → ℕ → Code
count_fault variadic named count =
    if variadic && nat_eq count named then code.NoVariableArgument else code.MacroArgumentCount

-- a function-like one's hides the names that both the name and the `)` hide, and the name itself
abbrev pub counted_turn : Hidden → Macro → Parameters → Taken → List (List Hidden) → Turn
counted_turn x macro parameters taken arguments =
    if nat_lt max_parameters (length arguments) then refused code.MacroParameterLimit
    else if nat_eq (length arguments) (length (names_of (Some parameters)))
    then replaced (record { name = x; call = record { macro = macro; at = x.token.pos; arguments = arguments }; hides = x.token.spelling ∷ common x.hides taken.close.hides; rest = taken.rest })
    else refused (count_fault parameters.variadic (length parameters.names) (length arguments))

abbrev pub taken_turn : Hidden → Macro → Parameters → Option Taken → Turn
taken_turn x macro parameters None = refused code.OpenMacroArguments
taken_turn x macro parameters (Some taken) =
    counted_turn x macro parameters taken
    (arguments_for (names_of (Some parameters)) (separated parameters.variadic (length parameters.names) taken.first taken.more))

-- a function-like name that is last in a run is refused, since the tokens that would follow it are in another list
abbrev pub last_turn : Ending → Turn
last_turn of_run = refused code.MacroNameEndsRun
last_turn of_directive = stands
last_turn of_argument = stands

abbrev pub function_turn : Hidden → Macro → Parameters → List Hidden → Ending → Turn
function_turn x macro parameters [] ending = last_turn ending
function_turn x macro parameters (y ∷ rest) ending =
    if is_spelled (codes "(") y.token then taken_turn x macro parameters (arguments_in 0 rest) else stands

abbrev pub turn_by : Hidden → Macro → Option Parameters → List Hidden → Ending → Turn
turn_by x macro None rest ending = object_turn x macro rest
turn_by x macro (Some parameters) rest ending = function_turn x macro parameters rest ending

abbrev pub turn_of : Hidden → Option Macro → List Hidden → Ending → Turn
turn_of x None rest ending = stands
turn_of x (Some macro) rest ending = turn_by x macro macro.parameters rest ending

unfoldable pub turn : Known → Hidden → List Hidden → Ending → Turn
turn known x rest ending = if is_live_predefined x then predefined else turn_of x (macro_at known x) rest ending

-- ---- the resulting list

-- why a list is refused, and where
pub record Fault : Type 0 where
  pub code : Code
  pub at : Pos

-- the tokens, and the number of replacements left
abbrev pub Answer : Type 0
Answer = Result (List Hidden × ℕ) Fault

-- the result of expanding a list, with a number of replacements left
abbrev pub Next : Type 0
Next = List Hidden → Ending → ℕ → Answer

abbrev pub at_place : {A : Type 0} → Pos → Result A Code → Result A Fault
at_place at (Ok x) = Ok x
at_place at (Err c) = Err (record { code = c; at = at })

-- an argument is expanded alone, as if it were the rest of the file (6.10.3.1p1), where its expansion is needed
abbrev pub argument_by : Next → Bool → List Hidden → ℕ → Answer
argument_by next true argument left = next argument of_argument left
argument_by next false argument left = Ok ([], left)

unfoldable pub arguments_expanded : Next → List Piece → ℕ → List (List Hidden) → ℕ → Result (List (List Hidden) × ℕ) Fault
arguments_expanded next pieces i [] left = Ok ([], left)
arguments_expanded next pieces i (argument ∷ more) left =
    argument_by next (is_expanded i pieces) argument left
    >>= λ a. arguments_expanded next pieces (suc i) more a.1
    >>= λ b. Ok (a.0 ∷ b.0, b.1)

-- the new tokens in front of the rest: the first one has the mark of the name
abbrev pub front_of : Replacement → List Hidden → List Hidden
front_of r new = marked r.name.token.space_before (hiding r.hides new) ++ r.rest

unfoldable pub replace : Next → Replacement → Ending → ℕ → Answer
replace next r ending left =
    at_place r.call.at (strings_made r.call r.call.macro.body)
    >>= λ made. let pieces = sides false made in arguments_expanded next pieces 0 r.call.arguments left
    >>= λ full. at_place r.call.at (substituted r.call full.0 pieces)
    >>= λ new. next (front_of r new) ending full.1

-- the token of a predefined macro, marked as a replacement; it is no identifier, so that its name need not be hidden from it
abbrev pub predefined_by : Known → Hidden → Kind × List ℕ → Hidden
predefined_by known x t = record {
  token = record { kind = t.0; spelling = t.1; space_before = x.token.space_before; pos = x.token.pos };
  hides = x.hides;
}

abbrev pub predefined_front : Known → Hidden → Hidden
predefined_front known x = predefined_by known x (predefined_token known x.token.spelling x.token.pos)

-- each replacement takes one of those that are left
abbrev pub predefined_one : Known → Next → Hidden → List Hidden → Ending → ℕ → Answer
predefined_one known next x rest ending zero = Err (record { code = code.ReplacementLimit; at = x.token.pos })
predefined_one known next x rest ending (suc left) = next (predefined_front known x ∷ rest) ending left

abbrev pub replace_one : Next → Replacement → Ending → ℕ → Answer
replace_one next r ending zero = Err (record { code = code.ReplacementLimit; at = r.call.at })
replace_one next r ending (suc left) = replace next r ending left

abbrev pub behind : Hidden → Answer → Answer
behind x answer = answer >>= λ a. Ok (x ∷ a.0, a.1)

abbrev pub taken : Known → Next → Turn → Hidden → List Hidden → Ending → ℕ → (Unit {0} → Answer) → Answer
taken known next stands x rest ending left kept = behind x (kept tt)
taken known next (refused c) x rest ending left kept = Err (record { code = c; at = x.token.pos })
taken known next predefined x rest ending left kept = predefined_one known next x rest ending left
taken known next (replaced r) x rest ending left kept = replace_one next r ending left

-- by cases on the first token; `next` expands the list that a replacement makes
unfoldable pub walk : Known → Next → List Hidden → Ending → ℕ → Answer
walk known next [] ending left = Ok ([], left)
walk known next (x ∷ rest) ending left =
    taken known next (turn known x rest ending) x rest ending left (λ _. walk known next rest ending left)

-- the recursion ends on a number that is at least that of the replacements left
unfoldable pub expanded_by : ℕ → Known → Next
expanded_by zero known xs ending left = walk known (λ _ _ _. Ok ([], 0)) xs ending left
expanded_by (suc n) known xs ending left = walk known (expanded_by n known) xs ending left

abbrev pub unhidden : List Token → List Hidden
unhidden xs = map (λ x. record { token = x; hides = [] }) xs

abbrev pub shown_answer : Answer → Result (List Token × ℕ) Fault
shown_answer answer = answer >>= λ a. Ok (map (λ x. x.token) a.0, a.1)

-- the expansion of a list with `left` replacements left: hide sets begin empty and stay inside
unfoldable pub expanded : Known → List Token → Ending → ℕ → Result (List Token × ℕ) Fault
expanded known xs ending left = shown_answer (expanded_by left known (unhidden xs) ending left)
