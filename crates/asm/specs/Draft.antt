-- Items under construction.
use Rattle.std.specs.Prelude.{ℕ, List}
use Rattle.asm.specs.declared.item.Item.{Item}

-- the items so far, and the number of labels so far, which are numbered from 0
pub record Draft : Type 0 where
  pub items : List Item
  pub labels : ℕ
