use Rattle.std.proofs.Common.{refl}
use Rattle.typing_scopes.specs.Scopes.{binding_of}
use Rattle.typing_units.proofs.entries.is_external.Goals as goal

pub returns-in-Some : goal.returns-in-Some
returns-in-Some c = rw c.in-Some.is (c.has_external.ensures (binding_of c.in-Some.binding.now) refl)
