use Rattle.std.proofs.Common.{ℕ, List, [], ◌≡◌, length, subst}
use Rattle.srcset.specs.Fault.{IsFault}
use Rattle.asm.specs.declared.item.Item.{Item}
use Rattle.asm.specs.Layout.{IsSized}
use Rattle.asm.specs.Placed.{Assembles, IsFewest}
use Rattle.asm.specs.inside.Refusing.{code_of}
use Rattle.asm.proofs.Standing.{assembles, sized}
use Rattle.asm.proofs.Telling.{told_value}
use Rattle.asm.proofs.assembling.assemble.Goals as goal

fewest : (xs ys : List Item) (base : ℕ) (bs : List ℕ) → xs ≡ ys → IsFewest xs base bs → IsFewest ys base bs
fewest xs ys base bs same f = subst (λ (zs : List Item). IsFewest zs base bs) same f

pub returns-clause-placed : goal.returns-clause-placed
returns-clause-placed c =
    let xs = c.args.items.now in
    let base = c.args.base in
    told_value (λ v. IsFewest c.as_slice.result.now base v.items) (λ v. Assembles xs base v.items) (λ e fault. IsFault fault (code_of e) [] 0) c.assemble_parts.result c.told.result c.told.ensures c.assemble_parts.ensures.ok
    (λ v f. assembles xs base v.items (fewest c.as_slice.result.now xs base v.items c.as_slice.ensures.items f))

pub returns-clause-size : goal.returns-clause-size
returns-clause-size c =
    let xs = c.args.items.now in
    let base = c.args.base in
    told_value (λ v. IsFewest c.as_slice.result.now base v.items) (λ v. IsSized base xs (length v.items)) (λ e fault. IsFault fault (code_of e) [] 0) c.assemble_parts.result c.told.result c.told.ensures c.assemble_parts.ensures.ok
    (λ v f. sized xs base v.items c.requires.aligned (fewest c.as_slice.result.now xs base v.items c.as_slice.ensures.items f))
