-- Keywords and identifiers (ISO/IEC 9899:2011 6.4.1, 6.4.2).
use Rattle.std.specs.Prelude.{ℕ, List, codes, Option, Some, None, Result, Ok, Err, if◌then◌else◌}
use Rattle.srcset.specs.declared.code.Code.{Code}
use Rattle.srcset.specs.declared.code.Code.TheVariants.{LeftOutFloating, LeftOutStructures, LeftOutGoto, LeftOutQualifiers, LeftOutSpecifiers, LeftOutPragmaOperator}
use Rattle.std.specs.Str.{bytes_eq}
use Rattle.lexer.specs.declared.token.Keyword.{Keyword}
use Rattle.lexer.specs.declared.token.Keyword.TheVariants as kw
use Rattle.lexer.specs.Meanings.{Meaning, keyword, name}

-- the keywords of this profile (6.4.1)
unfoldable pub keyword_of : List ℕ → Option Keyword
keyword_of s =
    if bytes_eq s (codes "_Bool") then Some kw.Bool else
    if bytes_eq s (codes "break") then Some kw.Break else
    if bytes_eq s (codes "case") then Some kw.Case else
    if bytes_eq s (codes "char") then Some kw.Char else
    if bytes_eq s (codes "const") then Some kw.Const else
    if bytes_eq s (codes "continue") then Some kw.Continue else
    if bytes_eq s (codes "default") then Some kw.Default else
    if bytes_eq s (codes "do") then Some kw.Do else
    if bytes_eq s (codes "else") then Some kw.Else else
    if bytes_eq s (codes "enum") then Some kw.Enum else
    if bytes_eq s (codes "extern") then Some kw.Extern else
    if bytes_eq s (codes "for") then Some kw.For else
    if bytes_eq s (codes "if") then Some kw.If else
    if bytes_eq s (codes "int") then Some kw.Int else
    if bytes_eq s (codes "long") then Some kw.Long else
    if bytes_eq s (codes "return") then Some kw.Return else
    if bytes_eq s (codes "short") then Some kw.Short else
    if bytes_eq s (codes "signed") then Some kw.Signed else
    if bytes_eq s (codes "sizeof") then Some kw.Sizeof else
    if bytes_eq s (codes "static") then Some kw.Static else
    if bytes_eq s (codes "_Static_assert") then Some kw.StaticAssert else
    if bytes_eq s (codes "switch") then Some kw.Switch else
    if bytes_eq s (codes "unsigned") then Some kw.Unsigned else
    if bytes_eq s (codes "void") then Some kw.Void else
    if bytes_eq s (codes "while") then Some kw.While else
    None

-- the code of a word that this profile leaves out: the other keywords, `_Pragma` (6.10.9) and `__func__` (6.4.2.2)
unfoldable pub left_out_of : List ℕ → Option Code
left_out_of s =
    if bytes_eq s (codes "float") then Some LeftOutFloating else
    if bytes_eq s (codes "double") then Some LeftOutFloating else
    if bytes_eq s (codes "_Complex") then Some LeftOutFloating else
    if bytes_eq s (codes "_Imaginary") then Some LeftOutFloating else
    if bytes_eq s (codes "struct") then Some LeftOutStructures else
    if bytes_eq s (codes "union") then Some LeftOutStructures else
    if bytes_eq s (codes "typedef") then Some LeftOutStructures else
    if bytes_eq s (codes "goto") then Some LeftOutGoto else
    if bytes_eq s (codes "volatile") then Some LeftOutQualifiers else
    if bytes_eq s (codes "restrict") then Some LeftOutQualifiers else
    if bytes_eq s (codes "_Atomic") then Some LeftOutQualifiers else
    if bytes_eq s (codes "_Thread_local") then Some LeftOutQualifiers else
    if bytes_eq s (codes "auto") then Some LeftOutQualifiers else
    if bytes_eq s (codes "register") then Some LeftOutQualifiers else
    if bytes_eq s (codes "inline") then Some LeftOutSpecifiers else
    if bytes_eq s (codes "_Noreturn") then Some LeftOutSpecifiers else
    if bytes_eq s (codes "_Alignas") then Some LeftOutSpecifiers else
    if bytes_eq s (codes "_Alignof") then Some LeftOutSpecifiers else
    if bytes_eq s (codes "_Generic") then Some LeftOutSpecifiers else
    if bytes_eq s (codes "_Pragma") then Some LeftOutPragmaOperator else
    if bytes_eq s (codes "__func__") then Some LeftOutPragmaOperator else
    None

-- a word that is no keyword is an identifier
abbrev pub identifier : Option Code → List ℕ → Result Meaning Code
identifier (Some code) s = Err code
identifier None s = Ok (name s)

abbrev pub word_as : Option Keyword → List ℕ → Result Meaning Code
word_as (Some k) s = Ok (keyword k)
word_as None s = identifier (left_out_of s) s

abbrev pub word : List ℕ → Result Meaning Code
word s = word_as (keyword_of s) s
