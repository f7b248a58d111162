-- `IsTable` is a proposition: it has at most one proof.
use Rattle.std.specs.Prelude.{ℕ, List}
use Rattle.std.proofs.Props.{props}
use Rattle.asm.specs.declared.item.Item.{Item}
use Rattle.asm.specs.declared.item.Item.TheVariants.{Mark, Plain, Branch, Jump, Call, NearCall, Constant, LabelAddress, DataAddress}
use Rattle.asm.specs.Layout.{Refers}
use Rattle.asm.specs.inside.Choice.{IsMark, IsTable}

Refers-prop : (n : ℕ) (x : Item) → IsProp (Refers n x)
Refers-prop n (Branch t l r to) = hlevel props
Refers-prop n (Jump to) = hlevel props
Refers-prop n (Call to) = hlevel props
Refers-prop n (NearCall to) = hlevel props
Refers-prop n (LabelAddress rd l) = hlevel props
Refers-prop n (Mark l) = hlevel props
Refers-prop n (Plain i) = hlevel props
Refers-prop n (Constant rd v) = hlevel props
Refers-prop n (DataAddress rd o) = hlevel props

IsMark-prop : (x : Item) (l : ℕ) → IsProp (IsMark x l)
IsMark-prop (Mark k) l = hlevel props
IsMark-prop (Branch t a b to) l = hlevel props
IsMark-prop (Jump to) l = hlevel props
IsMark-prop (Call to) l = hlevel props
IsMark-prop (NearCall to) l = hlevel props
IsMark-prop (LabelAddress rd k) l = hlevel props
IsMark-prop (Plain i) l = hlevel props
IsMark-prop (Constant rd v) l = hlevel props
IsMark-prop (DataAddress rd o) l = hlevel props

pub IsTable-prop : (homes : List ℕ) (xs : List Item) → IsProp (IsTable homes xs)
IsTable-prop homes xs = hlevel (props, Refers-prop, IsMark-prop)
