-- The fault of a violated constraint.
use Rattle.srcset.specs.NameTable.{Texts}
use Rattle.srcset.specs.Refusal.{IsFaultOfRefusal}
use Rattle.srcset.specs.declared.fault.Fault.{Fault}
use Rattle.srcset.specs.declared.refusal.Refusal.{Refusal}
use Rattle.typing_spec.specs.Scope.{Scope}
use Rattle.typing_spec.specs.Verdict.{Verdict}
use Rattle.typing_expressions.specs.Refused.{Tells}

-- a violated constraint, at its place under the names of these texts; or out of memory
pub record IsFaultOfVerdict (fault : Fault) (texts : Texts) (v : Verdict Scope) : Type 0 where
  pub refusal : Refusal
  pub refused : Tells refusal v
  pub shown : IsFaultOfRefusal fault texts refusal
