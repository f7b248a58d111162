-- Translation phase 4 of a set of files (ISO/IEC 9899:2011 5.1.1.2, 6.10): the tokens of the runs that are whole, in their
-- order, and how it ends.
use Rattle.std.specs.Prelude.{ℕ, zero, suc, ◌+◌, ◌-◌, ◌==◌, List, [], ◌∷◌, ◌++◌, map, take, drop, length, Bool, true, false, not, ◌&&◌, ◌||◌, nat_le, nat_lt, slice_get, slice_index, Option, Some, None, is_some, Result, Ok, Err, codes, if◌then◌else◌}
use Rattle.std.specs.List.{list_all, flat_map}
use Rattle.std.specs.Str.{byte, bytes_eq}
use Rattle.srcset.specs.declared.refusal.Pos.{Pos}
use Rattle.srcset.specs.declared.refusal.Refusal.{Refusal}
use Rattle.srcset.specs.declared.refusal.Refusal.TheVariants.{Memory, At, Told}
use Rattle.srcset.specs.declared.code.Code.{Code}
use Rattle.srcset.specs.declared.code.Code.TheVariants as code
use Rattle.srcset.specs.NameTable.{Texts}
use Rattle.srcset.specs.Files.{Files, file_of}
use Rattle.srcset.specs.Headers.{header_of}
use Rattle.phases.specs.declared.token.Kind.{Kind}
use Rattle.phases.specs.declared.token.Kind.TheVariants as kind
use Rattle.phases.specs.Characters.{double_quote, backslash, is_digit}
use Rattle.phases.specs.Token.{Token}
use Rattle.lexer.specs.Digits.{value_of}
use Rattle.macros.specs.Macro.{Macros, macro_named, is_predefined, is_identifier, is_spelled}
use Rattle.macros.specs.Definition.{define, undefine}
use Rattle.pp_expand.specs.Expansion as expansion
use Rattle.pp_expand.specs.Expansion.{Ending, of_run, of_directive, Known, expanded}
use Rattle.pp_cond.specs.Condition.{holds}
use Rattle.pp.specs.Lines.{Line, lines_of}
use Rattle.pp.specs.Groups.{Group, ends, run, directive, section, open_section, missing_end, unbalanced, Branches, no_branch, branch, groups, is_else, place_of}

-- ---- faults and states

-- the kind of the fault, its presumed place, and the text that it adds
pub record Fault : Type 0 where
  pub code : Code
  pub at : Pos
  pub text : List ℕ

-- How places are presumed (6.10.4): from a physical line on, as this line and those after it, of a file of this number.
pub record Presumed : Type 0 where
  pub from : ℕ
  pub line : ℕ
  pub file : ℕ

-- The state so far: the macros, the replacements left, the tokens of whole runs, and how places are presumed.
pub record State : Type 0 where
  pub macros : Macros
  pub left : ℕ
  pub given : List Token
  pub presumed : Presumed

-- it goes on, or stops with the tokens of whole runs and a fault
pub data Outcome (A : Type 0) : Type 0 where
  goes : (x : A) → Outcome A
  stops : (given : List Token) (fault : Fault) → Outcome A

infixl 10 ◌>>=◌
abbrev pub ◌>>=◌ : {A B : Type 0} → Outcome A → (A → Outcome B) → Outcome B
(goes x) >>= f = f x
(stops given fault) >>= f = stops given fault

abbrev pub fails : {A : Type 0} → State → Code → Pos → Outcome A
fails s c at = stops s.given (record { code = c; at = at; text = [] })

abbrev pub max_tokens : ℕ
max_tokens = 1048576

abbrev pub max_replacements : ℕ
max_replacements = 1048576

abbrev pub max_includes : ℕ
max_includes = 32

abbrev pub max_conditionals : ℕ
max_conditionals = 127

-- ---- places

abbrev pub presumed_at : State → Pos → Pos
presumed_at s p = record { file = s.presumed.file; line = p.line - s.presumed.from + s.presumed.line }

abbrev pub presume : State → List Token → List Token
presume s xs = map (λ (x : Token). record x { pos = presumed_at s x.pos }) xs

-- the number of a text: the first that has it, or one that none has
abbrev pub number_in : Texts → List ℕ → ℕ
number_in [] text = 0
number_in (t ∷ ts) text = if bytes_eq t text then 0 else suc (number_in ts text)

-- ---- runs

-- a list is expanded, and takes its replacements from those left
abbrev pub of_expansion : State → Result (List Token × ℕ) expansion.Fault → Outcome (List Token × State)
of_expansion s (Ok a) = goes (a.0, record s { left = a.1 })
of_expansion s (Err f) = fails s f.code f.at

abbrev pub expand : Texts → List Token → Ending → State → Outcome (List Token × State)
expand texts xs ending s = of_expansion s (expanded (record { macros = s.macros; texts = texts }) xs ending s.left)

-- the total number of given tokens is limited
abbrev pub first_past : Option Token → List Token → State → State → Outcome State
first_past None all old s = goes (record s { given = all })
first_past (Some x) all old s = fails old code.TokenLimit x.pos

abbrev pub give : State → List Token × State → Outcome State
give old r = first_past (slice_get (old.given ++ r.0) max_tokens) (old.given ++ r.0) old r.1

unfoldable pub run_done : Texts → List Token → State → Outcome State
run_done texts xs s = expand texts (presume s xs) of_run s >>= give s

-- ---- #define, #undef (6.10.3)

abbrev pub with_macros : State → Pos → Result Macros Code → Outcome State
with_macros s at (Ok macros) = goes (record s { macros = macros })
with_macros s at (Err c) = fails s c at

abbrev pub undefined : State → Pos → List Token → Outcome State
undefined s at (x ∷ []) = if is_identifier x then with_macros s at (undefine s.macros x) else fails s code.BadDirective at
undefined s at _ = fails s code.BadDirective at

-- ---- #include (6.10.2)

-- the text between the quotes or brackets
abbrev pub inside : List ℕ → List ℕ
inside text = take (length text - 2) (drop 1 text)

abbrev pub built_in : Option (List ℕ) → List ℕ → Option (List ℕ × List ℕ)
built_in None name = None
built_in (Some bytes) name = Some (codes "<" ++ name ++ codes ">", bytes)

abbrev pub or_built_in : Option (List ℕ) → List ℕ → Option (List ℕ × List ℕ)
or_built_in (Some bytes) name = Some (name, bytes)
or_built_in None name = built_in (header_of name) name

-- the name and the bytes of the file that is meant: "x" is a file of the set, or else <x>; <x> is a built-in header
abbrev pub file_meant : Files → List ℕ → Option (List ℕ × List ℕ)
file_meant files spelling =
    if slice_index spelling 0 == double_quote
    then or_built_in (file_of files (inside spelling)) (inside spelling)
    else built_in (header_of (inside spelling)) (inside spelling)

-- a file that is entered: its name in quotes or brackets, at the place of the directive
abbrev pub Enter : Type 0
Enter = List ℕ → Pos → State → Outcome State

-- the includer's places are presumed as before
abbrev pub resumed : State → State → Outcome State
resumed old s = goes (record s { presumed = old.presumed })

abbrev pub is_string_kind : Kind → Bool
is_string_kind kind.StringLiteral = true
is_string_kind _ = false

-- after replacement there has to be one string literal without a prefix
abbrev pub is_plain_string : Token → Bool
is_plain_string x = is_string_kind x.kind && (slice_index x.spelling 0 == double_quote)

abbrev pub include_made : Enter → Pos → List Token × State → Outcome State
include_made enter at ((x ∷ []), s) = if is_plain_string x then enter x.spelling at s >>= resumed s else fails s code.BadDirective at
include_made enter at (_, s) = fails s code.BadDirective at

abbrev pub is_header_kind : Kind → Bool
is_header_kind kind.HeaderName = true
is_header_kind _ = false

-- a header name, and nothing after it (6.10p1)
abbrev pub include_named : Enter → Pos → List Token → State → Outcome State
include_named enter at (x ∷ []) s = enter x.spelling at s >>= resumed s
include_named enter at _ s = fails s code.BadDirective at

unfoldable pub include_done : Texts → Enter → Pos → List Token → State → Outcome State
include_done texts enter at [] s = fails s code.BadDirective at
include_done texts enter at (x ∷ xs) s =
    if is_header_kind x.kind then include_named enter at (x ∷ xs) s
    else expand texts (x ∷ xs) of_directive s >>= include_made enter at

-- ---- #line (6.10.4)

abbrev pub is_line_number : List ℕ → Bool
is_line_number text =
    list_all is_digit text && nat_le 1 (value_of 10 text) && nat_le (value_of 10 text) 2147483647

-- bytes of 0x20 to 0x7E without backslash
abbrev pub is_file_byte : ℕ → Bool
is_file_byte b = nat_le 32 b && nat_le b 126 && not (b == backslash)

abbrev pub is_file_text : Token → Bool
is_file_text x = is_plain_string x && list_all is_file_byte (inside x.spelling)

-- the line after the directive is presumed to have this number
abbrev pub numbered : ℕ → List ℕ → ℕ → State → Outcome State
numbered end digits file s =
    goes (record s { presumed = record { from = suc end; line = value_of 10 digits; file = file } })

abbrev pub line_made : Texts → ℕ → Pos → List Token × State → Outcome State
line_made texts end at ((n ∷ []), s) =
    if is_line_number n.spelling then numbered end n.spelling s.presumed.file s else fails s code.BadLineDirective at
line_made texts end at ((n ∷ f ∷ []), s) =
    if is_line_number n.spelling && is_file_text f
    then numbered end n.spelling (number_in texts (inside f.spelling)) s
    else fails s code.BadLineDirective at
line_made texts end at (_, s) = fails s code.BadLineDirective at

unfoldable pub line_done : Texts → ℕ → Pos → List Token → State → Outcome State
line_done texts end at xs s = expand texts xs of_directive s >>= line_made texts end at

-- ---- #error (6.10.5)

abbrev pub printable : ℕ → ℕ
printable b = if nat_le 32 b && nat_le b 126 then b else byte "?"

-- each token after a space, cut after 200 bytes
abbrev pub error_text : List Token → List ℕ
error_text xs = take 200 (map printable (flat_map (λ x. byte " " ∷ x.spelling) xs))

-- ---- directives that are no part of a conditional section, by their names (6.10p1)

abbrev pub named : Texts → Enter → Token → List Token → ℕ → Pos → State → Outcome State
named texts enter name xs end at s =
    if is_spelled (codes "define") name then with_macros s at (define s.macros xs)
    else if is_spelled (codes "undef") name then undefined s at xs
    else if is_spelled (codes "include") name then include_done texts enter at xs s
    else if is_spelled (codes "line") name then line_done texts end at xs s
    else if is_spelled (codes "error") name then stops s.given (record { code = code.ErrorDirective; at = at; text = error_text xs })
    else if is_spelled (codes "pragma") name then goes s
    else fails s code.BadDirective at

-- the tokens of the line, with presumed places; a # alone does nothing (6.10.7)
abbrev pub directive_by : Texts → Enter → List Token → ℕ → State → Outcome State
directive_by texts enter (h ∷ x ∷ xs) end s =
    if is_identifier x then named texts enter x xs end h.pos s else fails s code.BadDirective h.pos
directive_by texts enter _ end s = goes s

unfoldable pub directive_done : Texts → Enter → Line → State → Outcome State
directive_done texts enter l s = directive_by texts enter (presume s l.tokens) l.end s

-- ---- conditions (6.10.1)

abbrev pub is_macro : State → List ℕ → Bool
is_macro s name = is_predefined name || is_some (macro_named s.macros name)

-- a `defined` and its operand, resolved
abbrev pub truth_token : Bool → Token → Token
truth_token b x = record x { kind = kind.Number; spelling = (if b then codes "1" else codes "0") }

abbrev pub name_operand : Token → ℕ → Option (List ℕ × ℕ)
name_operand x n = if is_identifier x then Some (x.spelling, n) else None

-- the name after a `defined`, and how many tokens it takes
abbrev pub operand_of : List Token → Option (List ℕ × ℕ)
operand_of [] = None
operand_of (x ∷ []) = name_operand x 1
operand_of (x ∷ y ∷ []) = name_operand x 1
operand_of (x ∷ y ∷ z ∷ rest) =
    if is_spelled (codes "(") x then (if is_spelled (codes ")") z then name_operand y 3 else None) else name_operand x 1

abbrev pub with_first : Token → Option (List Token) → Option (List Token)
with_first x None = None
with_first x (Some xs) = Some (x ∷ xs)

-- the `defined` and the rest without its operand, or no resolution
abbrev pub operand_resolved : Option (List ℕ × ℕ) → State → Token → (ℕ → Option (List Token)) → Option (List Token)
operand_resolved None s x rest = None
operand_resolved (Some o) s x rest = with_first (truth_token (is_macro s o.0) x) (rest o.1)

abbrev pub resolved_by : Bool → State → Token → List Token → (ℕ → Option (List Token)) → Option (List Token)
resolved_by false s x xs rest = with_first x (rest 0)
resolved_by true s x xs rest = operand_resolved (operand_of xs) s x rest

-- each written `defined` with its operand becomes 1 or 0; `skip` tokens belong to the operand before
unfoldable pub defined_resolved : ℕ → State → List Token → Option (List Token)
defined_resolved skip s [] = Some []
defined_resolved (suc k) s (x ∷ xs) = defined_resolved k s xs
defined_resolved zero s (x ∷ xs) =
    resolved_by (is_identifier x && is_spelled (codes "defined") x) s x xs (λ n. defined_resolved n s xs)

abbrev pub of_truth : State → Pos → Result Bool Code → Outcome (Bool × State)
of_truth s at (Ok b) = goes (b, s)
of_truth s at (Err c) = fails s c at

abbrev pub condition_by : Texts → Pos → Option (List Token) → State → Outcome (Bool × State)
condition_by texts at None s = fails s code.NotConstantCondition at
condition_by texts at (Some xs) s = expand texts xs of_directive s >>= λ r. of_truth r.1 at (holds r.0)

-- #ifdef and #ifndef
abbrev pub macro_asked : Bool → Pos → List Token → State → Outcome (Bool × State)
macro_asked wanted at (x ∷ []) s =
    if is_identifier x then goes ((if is_macro s x.spelling then wanted else not wanted), s) else fails s code.BadDirective at
macro_asked wanted at _ s = fails s code.BadDirective at

abbrev pub else_asked : Pos → List Token → State → Outcome (Bool × State)
else_asked at [] s = goes (true, s)
else_asked at (x ∷ xs) s = fails s code.BadDirective at

abbrev pub asked : Texts → Token → Pos → List Token → State → Outcome (Bool × State)
asked texts name at xs s =
    if is_spelled (codes "ifdef") name then macro_asked true at xs s
    else if is_spelled (codes "ifndef") name then macro_asked false at xs s
    else if is_spelled (codes "else") name then else_asked at xs s
    else condition_by texts at (defined_resolved 0 s xs) s

abbrev pub branch_by : Texts → List Token → State → Outcome (Bool × State)
branch_by texts (h ∷ x ∷ xs) s = asked texts x h.pos xs s
branch_by texts _ s = goes (false, s)

-- whether a branch is taken, where none before it was
unfoldable pub branch_taken : Texts → Line → State → Outcome (Bool × State)
branch_taken texts l s = branch_by texts (presume s l.tokens) s

-- after a branch that is taken an #elif is not read
abbrev pub else_checked : Line → State → Outcome State
else_checked l s = if is_else l.tokens && nat_lt 2 (length l.tokens) then fails s code.BadDirective (presumed_at s (place_of l.tokens)) else goes s

-- #endif, and nothing after it
abbrev pub end_checked : Line → State → Outcome State
end_checked l s = if nat_lt 2 (length l.tokens) then fails s code.BadDirective (presumed_at s (place_of l.tokens)) else goes s

-- ---- groups

abbrev pub first_line : Branches → List Token
first_line no_branch = []
first_line (branch l g bs) = l.tokens

abbrev pub or_else : Option Fault → Option Fault → Option Fault
or_else (Some f) other = Some f
or_else None other = other

abbrev pub plain_fault : Code → Pos → Option Fault
plain_fault c at = Some (record { code = c; at = at; text = [] })

-- a conditional nested in this number of open ones is one too many
abbrev pub nested : ℕ → Pos → (Unit {0} → Option Fault) → Option Fault
nested depth at rest = if nat_le max_conditionals depth then plain_fault code.NestingLimit at else rest tt

-- In a group that is skipped directives only keep track of the nesting (6.10.1p6): the first place where that fails.
-- `opened` is the place of the conditional that opened the group, `depth` how many are open.
unfoldable mutual
  pub skipped : State → Pos → ℕ → Group → Option Fault
  skipped s opened depth ends = None
  skipped s opened depth (run xs g) = skipped s opened depth g
  skipped s opened depth (directive l g) = skipped s opened depth g
  skipped s opened depth (section bs e g) =
      let at = presumed_at s (place_of (first_line bs)) in
      or_else (nested depth at (λ _. branches_skipped s at (suc depth) bs)) (skipped s opened depth g)
  skipped s opened depth (open_section bs) =
      let at = presumed_at s (place_of (first_line bs)) in nested depth at (λ _. branches_skipped s at (suc depth) bs)
  skipped s opened depth missing_end = plain_fault code.UnbalancedConditional opened
  skipped s opened depth (unbalanced at) = plain_fault code.UnbalancedConditional (presumed_at s at)

  pub branches_skipped : State → Pos → ℕ → Branches → Option Fault
  branches_skipped s opened depth no_branch = None
  branches_skipped s opened depth (branch l g bs) = or_else (skipped s opened depth g) (branches_skipped s opened depth bs)

abbrev pub unless_fault : Option Fault → State → Outcome State
unless_fault None s = goes s
unless_fault (Some f) s = stops s.given f

-- the fixed context: the numbers of texts, and the effect of entering a file
pub record Around : Type 0 where
  pub texts : Texts
  pub enter : Enter

-- the same, where the conditional is not skipped
abbrev pub nested_done : ℕ → Pos → State → (Unit {0} → Outcome State) → Outcome State
nested_done depth at s rest = if nat_le max_conditionals depth then fails s code.NestingLimit at else rest tt

abbrev pub taken_or_skipped : Bool → (Unit {0} → Outcome State) → (Unit {0} → Outcome State) → Outcome State
taken_or_skipped true taken not_taken = taken tt
taken_or_skipped false taken not_taken = not_taken tt

unfoldable mutual
  pub group_done : Around → Pos → ℕ → Group → State → Outcome State
  group_done around opened depth ends s = goes s
  group_done around opened depth (run xs g) s = run_done around.texts xs s >>= λ s. group_done around opened depth g s
  group_done around opened depth (directive l g) s = directive_done around.texts around.enter l s >>= λ s. group_done around opened depth g s
  group_done around opened depth (section bs e g) s =
      let at = presumed_at s (place_of (first_line bs)) in
      nested_done depth at s (λ _. branches_done around at (suc depth) bs s) >>= end_checked e >>= λ s. group_done around opened depth g s
  group_done around opened depth (open_section bs) s =
      let at = presumed_at s (place_of (first_line bs)) in nested_done depth at s (λ _. branches_done around at (suc depth) bs s)
  group_done around opened depth missing_end s = fails s code.UnbalancedConditional opened
  group_done around opened depth (unbalanced at) s = fails s code.UnbalancedConditional (presumed_at s at)

  -- no branch was taken so far
  pub branches_done : Around → Pos → ℕ → Branches → State → Outcome State
  branches_done around opened depth no_branch s = goes s
  branches_done around opened depth (branch l g bs) s =
      branch_taken around.texts l s >>= λ r. taken_or_skipped r.0
      (λ _. group_done around opened depth g r.1 >>= λ s. branches_left opened depth bs s)
      (λ _. unless_fault (skipped r.1 opened depth g) r.1 >>= λ s. branches_done around opened depth bs s)

  -- one was
  pub branches_left : Pos → ℕ → Branches → State → Outcome State
  branches_left opened depth no_branch s = goes s
  branches_left opened depth (branch l g bs) s =
      else_checked l s >>= λ s. unless_fault (skipped s opened depth g) s >>= λ s. branches_left opened depth bs s

-- ---- files

-- phases 1 to 3 refuse only at a place; the other two do not come
abbrev pub refused : Refusal → State → Outcome State
refused (At c at) s = fails s c at
refused (Told c at text) s = fails s c at
refused Memory s = fails s code.OutOfMemory (record { file = 0; line = 0 })

abbrev pub lines_done : Around → Result (List Line) Refusal → State → Outcome State
lines_done around (Ok ls) s = group_done around (record { file = 0; line = 0 }) 0 (groups ls) s
lines_done around (Err r) s = refused r s

-- a file is scanned whole as it is entered; the presumed places of its lines start as the physical ones
unfoldable pub file_done : Around → List ℕ → List ℕ → State → Outcome State
file_done around name bytes s =
    let file = number_in around.texts name in
    lines_done around (lines_of file bytes) (record s { presumed = record { from = 1; line = 1; file = file } })

abbrev pub entered_by : Option (List ℕ × List ℕ) → Pos → State → (List ℕ → List ℕ → Outcome State) → Outcome State
entered_by None at s enter = fails s code.IncludeNotFound at
entered_by (Some f) at s enter = enter f.0 f.1

-- with room for this number of further nested includes
unfoldable pub entered : ℕ → Files → Texts → Enter
entered zero files texts name at s = entered_by (file_meant files name) at s (λ _ _. fails s code.NestingLimit at)
entered (suc n) files texts name at s =
    entered_by (file_meant files name) at s (λ name bytes. file_done (record { texts = texts; enter = entered n files texts }) name bytes s)

-- ---- phase 4

-- the tokens of the runs that are whole, and the fault that ended it, if there is one
pub record Phase4 : Type 0 where
  pub tokens : List Token
  pub fault : Option Fault

abbrev pub ending_of : Outcome State → Phase4
ending_of (goes s) = record { tokens = s.given; fault = None }
ending_of (stops given f) = record { tokens = given; fault = Some f }

abbrev pub start : State
start = record { macros = []; left = max_replacements; given = []; presumed = record { from = 1; line = 1; file = 0 } }

abbrev pub main_done : Files → Texts → List ℕ → Option (List ℕ) → Outcome State
main_done files texts main None = fails start code.NoMainFile (record { file = number_in texts main; line = 0 })
main_done files texts main (Some bytes) = file_done (record { texts = texts; enter = entered max_includes files texts }) main bytes start

-- of a set of files whose main one has this name; texts are numbered as in this table
unfoldable pub phase4 : Files → Texts → List ℕ → Phase4
phase4 files texts main = ending_of (main_done files texts main (file_of files main))
