-- The answer to a request.
use Rattle.std.specs.Prelude.{◌≡◌, ℕ, ◌==◌, Option, Some, None, if◌then◌else◌}
use Rattle.machine_kept.specs.Kept.{TakesFile, Loads, TakesInput, Closes, Runs, GivesOutput, SetsRegister, Writes, detail_now, register_shown, byte_shown}
use Rattle.machine_kept.specs.declared.kept.Kept.{Kept}
use Rattle.machine_kept.specs.declared.serving.Request.{Request}
use Rattle.machine_kept.specs.declared.serving.Request.TheVariants.{File, Load, Input, Close, Run, Detail, Steps, Output, Register, SetRegister, Read, Write}

abbrev pub Serves : Request → ℕ → ℕ → Kept → ℕ → Kept → Type 0
Serves File a b old answer new = TakesFile a old answer new
Serves Load a b old answer new = Loads old answer new
Serves Input a b old answer new = TakesInput a old answer new
Serves Close a b old answer new = Closes old answer new
Serves Run a b old answer new = Runs a b old answer new
Serves Detail a b old answer new = (answer ≡ detail_now old.stopped) × (new ≡ old)
Serves Steps a b old answer new = (answer ≡ old.steps) × (new ≡ old)
Serves Output a b old answer new = GivesOutput old answer new
Serves Register a b old answer new = (answer ≡ register_shown a old) × (new ≡ old)
Serves SetRegister a b old answer new = SetsRegister a b old answer new
Serves Read a b old answer new = (answer ≡ byte_shown a old) × (new ≡ old)
Serves Write a b old answer new = Writes a b old answer new

abbrev pub request_of : ℕ → Option Request
request_of n =
    if n == 0 then Some File else
    if n == 1 then Some Load else
    if n == 2 then Some Input else
    if n == 3 then Some Close else
    if n == 4 then Some Run else
    if n == 5 then Some Detail else
    if n == 6 then Some Steps else
    if n == 7 then Some Output else
    if n == 8 then Some Register else
    if n == 9 then Some SetRegister else
    if n == 10 then Some Read else
    if n == 11 then Some Write else
    None

abbrev served_or_not : Option Request → ℕ → ℕ → Kept → ℕ → Kept → Type 0
served_or_not (Some request) a b old answer new = Serves request a b old answer new
served_or_not None a b old answer new = (answer ≡ 256) × (new ≡ old)

-- the effect of the request with this number; 256 where there is none: then it is as it was
abbrev pub Answers : ℕ → ℕ → ℕ → Kept → ℕ → Kept → Type 0
Answers number a b old answer new = served_or_not (request_of number) a b old answer new
