-- The relation between a refusal and a verdict.
use Rattle.srcset.specs.declared.refusal.Refusal.{Refusal}
use Rattle.srcset.specs.declared.refusal.Refusal.TheVariants.{Memory, At, Told}
use Rattle.srcset.specs.declared.code.Code.{Code}
use Rattle.srcset.specs.declared.refusal.Pos.{Pos}
use Rattle.typing_spec.specs.Verdict.{Verdict, Stands}

-- the constraint that the refusal reports is broken there
abbrev pub IsOf : {A : Type 0} → Refusal → Verdict A → Type 0
IsOf Memory v = ⊥
IsOf (At code at) v = Stands code at v
IsOf (Told code at text) v = ⊥

-- the same where memory may run out
abbrev pub Tells : {A : Type 0} → Refusal → Verdict A → Type 0
Tells Memory v = Unit {0}
Tells (At code at) v = Stands code at v
Tells (Told code at text) v = ⊥

-- a refusal with this code at this place
abbrev pub refused : Code → Pos → Refusal
refused code at = At code at
