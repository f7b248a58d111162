-- The meaning of the result of a reader where one byte was requested, and how often it is tried.
use Rattle.std.specs.Prelude.{ℕ, ◌==◌, if◌then◌else◌, Option, Some, None, Result, Ok, Err}
use Rattle.io_ports.specs.declared.port.PortFault.{PortFault}
use Rattle.io_ports.specs.declared.port.PortFault.TheVariants.{Read}

-- how often a call that a signal interrupted is tried, in all
abbrev pub tries : ℕ
tries = 1000

-- no byte is the end of the input
abbrev pub given : {E : Type 0} → Result ℕ E → ℕ → Result (Option ℕ) PortFault
given (Ok n) byte = Ok (if n == 0 then None else Some byte)
given (Err error) byte = Err Read
