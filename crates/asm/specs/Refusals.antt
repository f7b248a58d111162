-- The postconditions of a call that fails.
use Rattle.std.specs.Prelude.{◌≡◌, ◌⊎◌, ℕ, List, [], Option}
use Rattle.srcset.specs.declared.code.Code.TheVariants as code
use Rattle.srcset.specs.Writing.{TakesBeginning}
use Rattle.srcset.specs.declared.fault.Fault.{Fault}
use Rattle.srcset.specs.Fault.{IsFault, IsMemoryFault}
use Rattle.asm.specs.declared.item.Item.{Item}
use Rattle.asm.specs.Layout.{SomeMisses}
use Rattle.asm.specs.Listing.{IsListingOf}

-- a jump does not reach, though all branches are long, or out of memory
abbrev pub IsRefused : ℕ → List Item → Fault → Type 0
IsRefused base xs fault = (IsFault fault code.JumpLimit [] 0 × SomeMisses base xs) ⊎ IsMemoryFault fault

-- the writer accepted a prefix of a listing of xs
pub record WritesBeginning (base : ℕ) (xs : List Item) (before after : Option (List ℕ)) : Type 0 where
  pub listing : List ℕ
  pub is_listing : IsListingOf base xs listing
  pub beginning : TakesBeginning before after listing

-- the same with nothing written, or the writer failed after it had accepted a prefix
abbrev pub IsListRefused : ℕ → List Item → Option (List ℕ) → Option (List ℕ) → Fault → Type 0
IsListRefused base xs before after fault = (IsRefused base xs fault × (after ≡ before)) ⊎ (IsFault fault code.CannotWrite [] 0 × WritesBeginning base xs before after)
