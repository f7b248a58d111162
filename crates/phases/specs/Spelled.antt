-- A token made of its parts.
use Rattle.std.specs.Prelude.{ℕ, Bool, true, false}
use Rattle.std.specs.Cow.{cow_slice_items}
use Rattle.std.specs.declared.alloc.Global.{Global}
use Rattle.std.specs.declared.borrow.CowSlice.{CowSlice}
use Rattle.std.specs.declared.borrow.CowSlice.TheVariants.{Borrowed, Owned}
use Rattle.srcset.specs.declared.refusal.Pos.{Pos}
use Rattle.phases.specs.declared.token.Kind.{Kind}
use Rattle.phases.specs.Token.{Token}

abbrev pub token_of : Kind → CowSlice ℕ Global → Bool → Pos → Token
token_of kind spelling space_before pos =
    record { kind = kind; spelling = cow_slice_items spelling; space_before = space_before; pos = pos }

-- the bytes are borrowed, not owned
abbrev pub is_lent : CowSlice ℕ Global → Bool
is_lent (Borrowed bytes) = true
is_lent (Owned bytes) = false
