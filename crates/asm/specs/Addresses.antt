-- The addresses of items.
use Rattle.std.specs.Prelude.{◌≡◌, ◌≤◌, ℕ, ◌+◌, Bool, List, length, slice_index}
use Rattle.asm.specs.Layout.{place, Fits, IsBelowAll}
use Rattle.asm.specs.declared.item.Item.{Item}

-- the address of each item from base on, and that of the end, with the fewest long branches
pub record AreAddresses (xs : List Item) (base : ℕ) (addresses : List ℕ) : Type 0 where
  pub long : ℕ → Bool
  pub fits : Fits long base xs
  pub least : IsBelowAll long base xs
  pub count : length addresses ≡ length xs + 1
  pub at : (k : ℕ) → k ≤ length xs → slice_index addresses k ≡ place long base xs k
