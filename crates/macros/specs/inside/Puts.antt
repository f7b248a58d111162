-- The effect of a new macro on the table.
use Rattle.std.specs.Prelude.{◌≡◌, ℕ, ◌+◌, cond, length, nat_eq, Option, Some, None}
use Rattle.macros.specs.Table.{NumberedMacro, Table, numbered}

-- the macro is entered under the number, if none was there
pub record IsPut (old : Table) (n : ℕ) (x : NumberedMacro) (new : Table) : Type 0 where
  pub looks : (q : ℕ) → numbered new q ≡ cond (nat_eq n q) (Some x) (numbered old q)
  pub longer : length new ≡ length old + 1

abbrev pub PutBy : Option NumberedMacro → Table → ℕ → NumberedMacro → Table → Type 0
PutBy None old n x new = IsPut old n x new
PutBy (Some y) old n x new = new ≡ old

abbrev pub Puts : Table → ℕ → NumberedMacro → Table → Type 0
Puts old n x new = PutBy (numbered old n) old n x new
