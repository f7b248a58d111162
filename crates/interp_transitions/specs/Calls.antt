-- The outcome, in code, of a call whose arguments are evaluated. Bytes are got and put by whoever has the port.
use Rattle.std.specs.Prelude.{◌≡◌, List, Bool, Result, Ok, Err, ⊤}
use Rattle.srcset.specs.declared.refusal.Pos.{Pos}
use Rattle.ctypes.specs.Types.{modulo}
use Rattle.typing_spec.specs.Program as typed
use Rattle.csem.specs.Expressions as meaning
use Rattle.interp_store.specs.declared.stop.Stop.{Stop}
use Rattle.interp_store.specs.declared.machine.Machine.{Machine}
use Rattle.interp_store.specs.layer.Steps.{called}
use Rattle.interp_transitions.specs.declared.calling.Called.{Called}
use Rattle.interp_transitions.specs.declared.calling.Called.TheVariants as comes
use Rattle.interp_transitions.specs.Acts.{Acts}

-- a call that neither gets nor puts a byte
abbrev pub IsInside : typed.Callee → Type 0
IsInside (typed.function f) = ⊤
IsInside typed.get_byte = ⊥
IsInside typed.put_byte = ⊥
IsInside typed.exit = ⊤
IsInside (typed.missing name) = ⊤

abbrev pub CallActs : Machine → Pos → typed.Callee → Bool → List meaning.Passed → Result Called Stop → Machine → Type 0
CallActs old at callee used passed (Ok (comes.Step x)) new = IsInside callee × Acts (λ p s. called p at callee used passed s) old (Ok x) new
CallActs old at callee used passed (Ok comes.Gets) new = (callee ≡ typed.get_byte) × (new ≡ old)
CallActs old at callee used passed (Ok (comes.Puts b)) new = (callee ≡ typed.put_byte) × (b ≡ modulo 8 (meaning.first_number passed)) × (new ≡ old)
CallActs old at callee used passed (Err stop) new = IsInside callee × Acts (λ p s. called p at callee used passed s) old (Err stop) new
