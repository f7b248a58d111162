-- Punctuators (ISO/IEC 9899:2011 6.4.6).
use Rattle.std.specs.Prelude.{ℕ, List, codes, Option, Some, None, Result, Ok, Err, if◌then◌else◌}
use Rattle.srcset.specs.declared.code.Code.{Code}
use Rattle.srcset.specs.declared.code.Code.TheVariants.{NotAToken}
use Rattle.std.specs.Str.{bytes_eq}
use Rattle.lexer.specs.declared.token.Punctuator.{Punctuator}
use Rattle.lexer.specs.declared.token.Punctuator.TheVariants as p
use Rattle.lexer.specs.Meanings.{Meaning, punctuator}

-- of one character
unfoldable pub single_of : List ℕ → Option Punctuator
single_of s =
    if bytes_eq s (codes "[") then Some p.BracketOpen else
    if bytes_eq s (codes "]") then Some p.BracketClose else
    if bytes_eq s (codes "(") then Some p.ParenOpen else
    if bytes_eq s (codes ")") then Some p.ParenClose else
    if bytes_eq s (codes "{") then Some p.BraceOpen else
    if bytes_eq s (codes "}") then Some p.BraceClose else
    if bytes_eq s (codes ".") then Some p.Dot else
    if bytes_eq s (codes "&") then Some p.Ampersand else
    if bytes_eq s (codes "*") then Some p.Star else
    if bytes_eq s (codes "+") then Some p.Plus else
    if bytes_eq s (codes "-") then Some p.Minus else
    if bytes_eq s (codes "~") then Some p.Tilde else
    if bytes_eq s (codes "!") then Some p.Bang else
    if bytes_eq s (codes "/") then Some p.Slash else
    if bytes_eq s (codes "%") then Some p.Percent else
    if bytes_eq s (codes "<") then Some p.Less else
    if bytes_eq s (codes ">") then Some p.Greater else
    if bytes_eq s (codes "^") then Some p.Caret else
    if bytes_eq s (codes "|") then Some p.Bar else
    if bytes_eq s (codes "?") then Some p.Question else
    if bytes_eq s (codes ":") then Some p.Colon else
    if bytes_eq s (codes ";") then Some p.Semicolon else
    if bytes_eq s (codes "=") then Some p.Assign else
    if bytes_eq s (codes ",") then Some p.Comma else
    if bytes_eq s (codes "#") then Some p.Hash else
    None

-- of two, digraphs among them (6.4.6p3)
unfoldable pub pair_of : List ℕ → Option Punctuator
pair_of s =
    if bytes_eq s (codes "->") then Some p.Arrow else
    if bytes_eq s (codes "++") then Some p.PlusPlus else
    if bytes_eq s (codes "--") then Some p.MinusMinus else
    if bytes_eq s (codes "<<") then Some p.ShiftLeft else
    if bytes_eq s (codes ">>") then Some p.ShiftRight else
    if bytes_eq s (codes "<=") then Some p.LessEqual else
    if bytes_eq s (codes ">=") then Some p.GreaterEqual else
    if bytes_eq s (codes "==") then Some p.EqualEqual else
    if bytes_eq s (codes "!=") then Some p.BangEqual else
    if bytes_eq s (codes "&&") then Some p.AndAnd else
    if bytes_eq s (codes "||") then Some p.BarBar else
    if bytes_eq s (codes "*=") then Some p.StarAssign else
    if bytes_eq s (codes "/=") then Some p.SlashAssign else
    if bytes_eq s (codes "%=") then Some p.PercentAssign else
    if bytes_eq s (codes "+=") then Some p.PlusAssign else
    if bytes_eq s (codes "-=") then Some p.MinusAssign else
    if bytes_eq s (codes "&=") then Some p.AmpersandAssign else
    if bytes_eq s (codes "^=") then Some p.CaretAssign else
    if bytes_eq s (codes "|=") then Some p.BarAssign else
    if bytes_eq s (codes "##") then Some p.HashHash else
    if bytes_eq s (codes "<:") then Some p.BracketOpen else
    if bytes_eq s (codes ":>") then Some p.BracketClose else
    if bytes_eq s (codes "<%") then Some p.BraceOpen else
    if bytes_eq s (codes "%>") then Some p.BraceClose else
    if bytes_eq s (codes "%:") then Some p.Hash else
    None

-- of three and four
unfoldable pub longer_of : List ℕ → Option Punctuator
longer_of s =
    if bytes_eq s (codes "...") then Some p.Ellipsis else
    if bytes_eq s (codes "<<=") then Some p.ShiftLeftAssign else
    if bytes_eq s (codes ">>=") then Some p.ShiftRightAssign else
    if bytes_eq s (codes "%:%:") then Some p.HashHash else
    None

abbrev pub or_else : Option Punctuator → Option Punctuator → Option Punctuator
or_else (Some x) other = Some x
or_else None other = other

abbrev pub punctuator_of : List ℕ → Option Punctuator
punctuator_of s = or_else (single_of s) (or_else (pair_of s) (longer_of s))

abbrev pub mark_as : Option Punctuator → Result Meaning Code
mark_as (Some x) = Ok (punctuator x)
mark_as None = Err NotAToken

abbrev pub mark : List ℕ → Result Meaning Code
mark s = mark_as (punctuator_of s)
