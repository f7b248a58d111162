-- Why the truth of a condition is refused.
use Rattle.std.specs.Prelude.{◌≡◌, Bool, Result, Err}
use Rattle.srcset.specs.declared.code.Code.{Code}
use Rattle.srcset.specs.declared.refusal.Pos.{Pos}
use Rattle.srcset.specs.declared.refusal.Refusal.{Refusal}
use Rattle.srcset.specs.declared.refusal.Refusal.TheVariants.{Memory, At, Told}

-- out of memory, or with the fault of the condition at this place
abbrev pub IsConditionRefused : Result Bool Code → Pos → Refusal → Type 0
IsConditionRefused h at Memory = Unit {0}
IsConditionRefused h at (At c p) = (h ≡ Err c) × (p ≡ at)
IsConditionRefused h at (Told c p text) = ⊥
