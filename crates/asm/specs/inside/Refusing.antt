-- The postconditions of an inner step that fails.
use Rattle.srcset.specs.declared.code.Code.{Code}
use Rattle.srcset.specs.declared.code.Code.TheVariants as code
use Rattle.asm.specs.declared.refusal.Refusal.{Refusal}
use Rattle.asm.specs.declared.refusal.Refusal.TheVariants.{Far, Memory, Write}

-- the code of the fault
abbrev pub code_of : Refusal → Code
code_of Far = code.JumpLimit
code_of Memory = code.OutOfMemory
code_of Write = code.CannotWrite

-- an error for a jump occurs only where P
abbrev pub IfFar : Type 0 → Refusal → Type 0
IfFar P Far = P
IfFar P Memory = Unit {0}
IfFar P Write = ⊥
