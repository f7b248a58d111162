-- The typed program of a unit, where constraints on the whole unit are reported at a given place.
use Rattle.std.proofs.Common.{◌≡◌, ℕ, List}
use Rattle.srcset.specs.NameTable.{Texts}
use Rattle.srcset.specs.declared.fault.Fault.{Fault}
use Rattle.tree.specs.Tree.{ExternalTree}
use Rattle.typing_spec.specs.Program.{Program}
use Rattle.typing_spec.specs.Verdict.{Verdict}
use Rattle.typing_spec.specs.Units.{unit_typed}
use Rattle.typing.specs.Told.{IsFaultOfVerdict}
use Rattle.cc.specs.Compiled.{typed_at}

pub verdict_at : (stack : ℕ) (texts : Texts) (file : ℕ) (unit : List ExternalTree) (v : Verdict Program) → unit_typed stack texts (record { file = file; line = 1 }) unit ≡ v → typed_at stack texts file unit ≡ v
unfolding typed_at
verdict_at stack texts file unit v e = e

pub fault_at : (stack : ℕ) (texts : Texts) (file : ℕ) (unit : List ExternalTree) (fault : Fault) → IsFaultOfVerdict fault texts (unit_typed stack texts (record { file = file; line = 1 }) unit) → IsFaultOfVerdict fault texts (typed_at stack texts file unit)
unfolding typed_at
fault_at stack texts file unit fault h = h
