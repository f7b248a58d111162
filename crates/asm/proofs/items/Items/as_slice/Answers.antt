use Rattle.std.proofs.Common.{length, subst, List}
use Rattle.asm.specs.declared.item.Item.{Item}
use Rattle.asm.specs.Layout.{IsSound}
use Rattle.asm.proofs.Tables.{sound_of}
use Rattle.asm.proofs.items.Items.as_slice.Goals as goal

pub returns-clause-sound : goal.returns-clause-sound
returns-clause-sound c =
    let n = length c.self.inside.homes.items in
    (n, subst (λ (xs : List Item). IsSound n xs) c.self.view_is (sound_of c.self.inside.homes.items c.self.inside.list.items c.self.invariant))
