-- The meaning of a token, before its texts are numbered (ISO/IEC 9899:2011 6.4).
use Rattle.std.specs.Prelude.{ℕ, List}
use Rattle.ctypes.specs.declared.types.IntType.{IntType}
use Rattle.srcset.specs.declared.refusal.Pos.{Pos}
use Rattle.lexer.specs.declared.token.Keyword.{Keyword}
use Rattle.lexer.specs.declared.token.Punctuator.{Punctuator}

-- an identifier has its spelling; a constant its type and value; a string literal the bytes that it denotes
pub data Meaning : Type 0 where
  keyword : (k : Keyword) → Meaning
  name : (spelling : List ℕ) → Meaning
  constant : (type : IntType) (value : ℕ) → Meaning
  text : (bytes : List ℕ) → Meaning
  punctuator : (p : Punctuator) → Meaning

pub record CToken : Type 0 where
  pub meaning : Meaning
  pub pos : Pos
