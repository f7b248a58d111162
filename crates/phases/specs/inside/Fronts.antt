-- Postconditions of finding a front of a text.
use Rattle.std.specs.Prelude.{◌≡◌, ℕ, ◌<◌, Bool, Option, Some, drop, slice_index}
use Rattle.phases.specs.declared.cursor.Cursor.{Cursor}
use Rattle.phases.specs.declared.cursor.Step.{Step}
use Rattle.phases.specs.declared.cursor.Span.{Span}
use Rattle.phases.specs.declared.cursor.Lexeme.{Lexeme}
use Rattle.phases.specs.declared.cursor.Front.{Front}
use Rattle.phases.specs.declared.cursor.Comment.{Comment}
use Rattle.phases.specs.declared.token.Kind.{Kind}
use Rattle.phases.specs.declared.token.Piece.{Piece}
use Rattle.phases.specs.inside.Reading.{bytes_at, Spans, IsStep}

-- the front has `n` characters
pub record IsFront (from : Cursor) (n : ℕ) (s : Span) : Type 0 where
  pub count_is : s.count ≡ n
  pub spans : Spans from s.count s.after

-- the front has `n` characters, and at least one
pub record IsSomeFront (from : Cursor) (n : ℕ) (s : Span) : Type 0 where
  pub count_is : s.count ≡ n
  pub spans : Spans from s.count s.after
  pub some : 0 < n

-- through the closing byte
pub record IsCloseFront (from : Cursor) (o : Option ℕ) (s : Span) : Type 0 where
  pub count_is : o ≡ Some s.count
  pub spans : Spans from s.count s.after

-- the rest of a comment
pub record IsCommentFront (from : Cursor) (t : Bool × ℕ) (x : Comment) : Type 0 where
  pub closed_is : x.closed ≡ t.0
  pub count_is : x.span.count ≡ t.1
  pub spans : Spans from x.span.count x.span.after

-- the token at the front
pub record IsLexeme (from : Cursor) (t : Kind × ℕ) (x : Lexeme) : Type 0 where
  pub kind_is : x.kind ≡ t.0
  pub count_is : x.span.count ≡ t.1
  pub spans : Spans from x.span.count x.span.after
  pub some : 0 < x.span.count

-- the piece at the front
pub record IsPiece (from : Cursor) (t : Piece × ℕ) (x : Front) : Type 0 where
  pub piece_is : x.piece ≡ t.0
  pub count_is : x.span.count ≡ t.1
  pub spans : Spans from x.span.count x.span.after
  pub some : 0 < x.span.count

-- the byte ahead and the text after it, or 0 at the end
pub record IsAhead (from : Cursor) (s : Step) : Type 0 where
  pub byte_is : s.byte ≡ slice_index (bytes_at from) 0
  pub rest_is : bytes_at s.next ≡ drop 1 (bytes_at from)
  pub step : (s.byte ≡ 0 → ⊥) → IsStep from s
