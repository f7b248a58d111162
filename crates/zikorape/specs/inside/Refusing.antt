-- Why a caller's files are no set of files.
use Rattle.std.specs.Prelude.{◌≢◌, ℕ, List, length}
use Rattle.zikorape.specs.Given.{FailsToGive, total}
use Rattle.zikorape.specs.declared.files.FileLengths.{FileLengths}
use Rattle.zikorape.specs.declared.refusing.Refusal.{Refusal}
use Rattle.zikorape.specs.declared.refusing.Refusal.TheVariants.{Lengths, Told}

abbrev pub IsRefusal : List ℕ → List FileLengths → Refusal → Type 0
IsRefusal texts lengths Lengths = total lengths ≢ length texts
IsRefusal texts lengths (Told fault) = FailsToGive texts lengths fault
