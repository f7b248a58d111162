-- One file as text lines, directives and conditional sections (ISO/IEC 9899:2011 6.10p1, 6.10.1), read from its last line
-- back to its first.
use Rattle.std.specs.Prelude.{List, [], ◌∷◌, ◌++◌, Bool, true, false, ◌||◌, if◌then◌else◌, codes}
use Rattle.srcset.specs.declared.refusal.Pos.{Pos}
use Rattle.phases.specs.Token.{Token}
use Rattle.macros.specs.Macro.{is_identifier, is_spelled, is_hash}
use Rattle.pp.specs.Lines.{Line}

mutual
  -- a group of lines, and its end
  pub data Group : Type 0 where
    -- the end of the file, or a line that ends the group
    ends : Group
    -- text lines with no directive between, as one list of tokens: a run
    run : (xs : List Token) (g : Group) → Group
    -- any directive that is no part of a conditional section
    directive : (l : Line) (g : Group) → Group
    -- a conditional section, the line of its #endif, and what follows it
    section : (bs : Branches) (end : Line) (g : Group) → Group
    -- a section that is not closed: the last group of its last branch says why, and nothing follows
    open_section : (bs : Branches) → Group
    -- the file ends, and the #endif of the conditional that opened the group is missing
    missing_end : Group
    -- an #elif, #else or #endif that belongs to no conditional, or that follows its #else
    unbalanced : (at : Pos) → Group

  -- the branches of a section: the line of each, and its group
  pub data Branches : Type 0 where
    no_branch : Branches
    branch : (l : Line) (g : Group) (bs : Branches) → Branches

-- ---- lines

pub data Role : Type 0 where
  of_text : Role
  opens : Role
  divides : Role
  closes : Role
  stands_alone : Role

abbrev pub is_text : Role → Bool
is_text of_text = true
is_text opens = false
is_text divides = false
is_text closes = false
is_text stands_alone = false

abbrev pub word_role : Token → Role
word_role x =
    if is_spelled (codes "if") x || is_spelled (codes "ifdef") x || is_spelled (codes "ifndef") x then opens
    else if is_spelled (codes "elif") x || is_spelled (codes "else") x then divides
    else if is_spelled (codes "endif") x then closes
    else stands_alone

abbrev pub hash_role : List Token → Role
hash_role [] = stands_alone
hash_role (x ∷ xs) = if is_identifier x then word_role x else stands_alone

-- a line whose first token is a # is a directive (6.10p2)
abbrev pub role_of : List Token → Role
role_of [] = of_text
role_of (x ∷ xs) = if is_hash x then hash_role xs else of_text

abbrev pub is_else : List Token → Bool
is_else (x ∷ y ∷ ys) = is_spelled (codes "else") y
is_else _ = false

abbrev pub place_of : List Token → Pos
place_of [] = record { file = 0; line = 0 }
place_of (x ∷ xs) = x.pos

-- ---- groups

-- The parse of the lines from some line on: a group to the end of the file; or a group up to an #elif, #else or #endif whose conditional precedes the group,
-- that line, and the parse of the lines after it.
pub data Parsed : Type 0 where
  to_end : (g : Group) → Parsed
  to_line : (g : Group) (l : Line) (rest : Parsed) → Parsed

abbrev pub in_first : (Group → Group) → Parsed → Parsed
in_first f (to_end g) = to_end (f g)
in_first f (to_line g l rest) = to_line (f g) l rest

-- a new line within a run counts as white space (6.10.3p10)
abbrev pub behind_newline : List Token → List Token
behind_newline [] = []
behind_newline (x ∷ xs) = record x { space_before = true } ∷ xs

abbrev pub with_text : List Token → Group → Group
with_text xs (run ys g) = run (xs ++ behind_newline ys) g
with_text xs g = run xs g

-- the group with this at its end, where nothing ended it before
abbrev pub ended_by : Group → Group → Group
ended_by last ends = last
ended_by last (run xs g) = run xs (ended_by last g)
ended_by last (directive l g) = directive l (ended_by last g)
ended_by last (section bs e g) = section bs e (ended_by last g)
ended_by last g = g

-- the branches of a section from one on: closed by a line, with what follows it, or not closed
pub data Tail : Type 0 where
  closed : (bs : Branches) (end : Line) (rest : Parsed) → Tail
  unclosed : (bs : Branches) → Tail

abbrev pub with_branch : Line → Group → Tail → Tail
with_branch l g (closed bs e rest) = closed (branch l g bs) e rest
with_branch l g (unclosed bs) = unclosed (branch l g bs)

-- an #elif or #else after a branch: none may follow an #else
abbrev pub divided_by : Bool → Line → Group → Line → (Unit {0} → Tail) → Tail
divided_by true l g m rest = unclosed (branch l (ended_by (unbalanced (place_of m.tokens)) g) no_branch)
divided_by false l g m rest = with_branch l g (rest tt)

abbrev pub branch_ended : Role → Line → Group → Line → Parsed → (Unit {0} → Tail) → Tail
branch_ended closes l g m rest further = closed (branch l g no_branch) m rest
branch_ended _ l g m rest further = divided_by (is_else l.tokens) l g m further

abbrev pub branches_from : Line → Parsed → Tail
branches_from l (to_end g) = unclosed (branch l (ended_by missing_end g) no_branch)
branches_from l (to_line g m rest) = branch_ended (role_of m.tokens) l g m rest (λ _. branches_from m rest)

abbrev pub with_section : Tail → Parsed
with_section (closed bs e rest) = in_first (λ g. section bs e g) rest
with_section (unclosed bs) = to_end (open_section bs)

-- a line before the parse of the lines after it
abbrev pub with_line : Role → Line → Parsed → Parsed
with_line of_text l rest = in_first (with_text l.tokens) rest
with_line opens l rest = with_section (branches_from l rest)
with_line divides l rest = to_line ends l rest
with_line closes l rest = to_line ends l rest
with_line stands_alone l rest = in_first (λ g. directive l g) rest

unfoldable pub parsed : List Line → Parsed
parsed [] = to_end ends
parsed (l ∷ ls) = with_line (role_of l.tokens) l (parsed ls)

abbrev pub whole_file : Parsed → Group
whole_file (to_end g) = g
whole_file (to_line g l rest) = ended_by (unbalanced (place_of l.tokens)) g

unfoldable pub groups : List Line → Group
groups ls = whole_file (parsed ls)
