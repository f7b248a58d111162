-- A preprocessing token, without the location of its text in memory.
use Rattle.std.specs.Prelude.{ℕ, Bool, List}
use Rattle.srcset.specs.declared.refusal.Pos.{Pos}
use Rattle.phases.specs.declared.token.Kind.{Kind}

-- a preprocessing token: its kind, its text, whether white space precedes it on its line, and its place
pub record Token : Type 0 where
  pub kind : Kind
  pub spelling : List ℕ
  pub space_before : Bool
  pub pos : Pos
