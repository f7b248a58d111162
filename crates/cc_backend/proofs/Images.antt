-- The image of flat code.
use Rattle.std.proofs.Common.{◌≡◌, ◌≤◌, ℕ, List, subst, arith}
use Rattle.memory_map.specs.MemoryMap.{text_start}
use Rattle.asm.specs.declared.item.Item.{Item}
use Rattle.asm.specs.Layout.{IsSized, longest}
use Rattle.asm.proofs.Ends.{ends}

-- a text is no longer than its items' greatest sizes
pub short_text : (xs ys : List Item) (n : ℕ) → xs ≡ ys → IsSized text_start xs n → n ≤ longest ys
short_text xs ys n same sized =
    let short : n ≤ longest xs = omega (arith, sized.most, ends text_start xs) in
    subst (λ (zs : List Item). n ≤ longest zs) same short
