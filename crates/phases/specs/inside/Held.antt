-- The token of its parts, with a spelling that is borrowed, or owned by it and its copies.
use Rattle.std.specs.Rc.{rc_slice_items}
use Rattle.phases.specs.declared.token.Held.{Held}
use Rattle.phases.specs.declared.token.Held.TheVariants.{Lent, Owned}
use Rattle.phases.specs.Token.{Token}

abbrev pub token_held : Held → Token
token_held (Lent kind space_before line file spelling) =
    record { kind = kind; spelling = spelling.now; space_before = space_before; pos = record { file = file; line = line } }
token_held (Owned kind space_before line file spelling) =
    record { kind = kind; spelling = rc_slice_items spelling; space_before = space_before; pos = record { file = file; line = line } }
