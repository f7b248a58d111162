-- The view that a contract has of an image.
use Rattle.std.specs.Prelude.{ℕ, List}

-- the segments of text and of data, whole, and the bytes of the stack
pub record Parts : Type 0 where
  pub text : List ℕ
  pub statics : List ℕ
  pub stack : ℕ
