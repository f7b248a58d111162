-- Code in another order, by a plan: each instruction of the new code stands for one of the old code. Jumps are threaded, ends of loops doubled, and what does
-- nothing is left out.
use Rattle.std.specs.Prelude.{◌≡◌, ℕ, zero, suc, ◌+◌, ◌-◌, ◌==◌, ◌&&◌, ◌||◌, not, Bool, true, false, if◌then◌else◌, List, [], ◌∷◌, map, slice_get, Option, Some, None}
use Rattle.frames_code.specs.declared.code.Instruction.{Instruction}
use Rattle.frames_code.specs.declared.code.Instruction.TheVariants as instruction
use Rattle.frames_layout.specs.declared.plan.Stand.{Stand}
use Rattle.frames_layout.specs.declared.walks.Onward.{Onward}

-- ---- instructions that only lead on

abbrev pub onward : ℕ → Instruction → Option Onward
onward k instruction.Nothing = Some (record { to = k + 1; jumps = 0 })
onward k (instruction.Move d x) = None
onward k (instruction.Compute o d x y) = None
onward k (instruction.Convert c d x) = None
onward k (instruction.Load w d l) = None
onward k (instruction.Store w x l) = None
onward k (instruction.Address d l) = None
onward k (instruction.Element d x y size) = None
onward k (instruction.Jump to) = Some (record { to = to; jumps = 1 })
onward k (instruction.Branch t x y to) = None
onward k (instruction.Call f) = None
onward k instruction.PutByte = None
onward k instruction.GetByte = None
onward k instruction.Exit = None
onward k instruction.Return = None

abbrev pub onward_if : ℕ → Option Instruction → Option Onward
onward_if k None = None
onward_if k (Some x) = onward k x

abbrev pub onward_at : List Instruction → ℕ → Option Onward
onward_at code k = onward_if k (slice_get code k)

abbrev pub holds_in : {A : Type 0} → (A → Bool) → Option A → Bool
holds_in f None = false
holds_in f (Some x) = f x

-- from k the code comes to m within n such instructions, of which at least so many are jumps
abbrev pub walks : List Instruction → (n jumps m k : ℕ) → Bool
walks code zero jumps m k = (k == m) && (jumps == 0)
walks code (suc n) jumps m k = ((k == m) && (jumps == 0)) || holds_in (λ w. walks code n (jumps - w.jumps) m w.to) (onward_at code k)

abbrev pub most_onward : ℕ
most_onward = 64

-- ---- the plan

-- what the new code has for an instruction of the old code
abbrev pub led_to : ℕ → Instruction → Instruction
led_to place instruction.Nothing = instruction.Nothing
led_to place (instruction.Move d x) = instruction.Move d x
led_to place (instruction.Compute o d x y) = instruction.Compute o d x y
led_to place (instruction.Convert c d x) = instruction.Convert c d x
led_to place (instruction.Load w d l) = instruction.Load w d l
led_to place (instruction.Store w x l) = instruction.Store w x l
led_to place (instruction.Address d l) = instruction.Address d l
led_to place (instruction.Element d x y size) = instruction.Element d x y size
led_to place (instruction.Jump to) = instruction.Jump place
led_to place (instruction.Branch t x y to) = instruction.Branch t x y place
led_to place (instruction.Call f) = instruction.Call f
led_to place instruction.PutByte = instruction.PutByte
led_to place instruction.GetByte = instruction.GetByte
led_to place instruction.Exit = instruction.Exit
led_to place instruction.Return = instruction.Return

abbrev pub led_if : ℕ → Option Instruction → Instruction
led_if place None = instruction.Nothing
led_if place (Some x) = led_to place x

abbrev pub kept : List Instruction → Stand → Instruction
kept code e = led_if e.place (slice_get code e.old)

abbrev pub made : List Instruction → Stand → Instruction
made code e = if e.is_jump then instruction.Jump e.place else kept code e

abbrev pub all_made : List Instruction → List Stand → List Instruction
all_made code plan = map (made code) plan

-- one jump if it is owed
abbrev pub owed : Bool → ℕ
owed true = 1
owed false = 0

-- from place k of the old code it comes to what number j of the new code stands for; if a jump is owed there, so many of it were passed before
abbrev pub comes : List Instruction → List Stand → (before k j : ℕ) → Bool
comes code plan before k j = holds_in (λ (e : Stand). walks code most_onward (owed e.is_owed - before) e.old k) (slice_get plan j)

abbrev pub is_plain : Stand → Bool
is_plain e = not e.is_owed

abbrev pub is_plain_at : List Stand → ℕ → Bool
is_plain_at plan j = holds_in is_plain (slice_get plan j)

-- number j of the new code, which stands so for an instruction of the old code, leads on as that does
abbrev pub leads_as : List Instruction → List Stand → ℕ → Stand → Instruction → Bool
leads_as code plan j e instruction.Nothing = comes code plan (owed e.is_owed) (e.old + 1) (j + 1)
leads_as code plan j e (instruction.Move d x) = comes code plan (owed e.is_owed) (e.old + 1) (j + 1)
leads_as code plan j e (instruction.Compute o d x y) = comes code plan (owed e.is_owed) (e.old + 1) (j + 1)
leads_as code plan j e (instruction.Convert c d x) = comes code plan (owed e.is_owed) (e.old + 1) (j + 1)
leads_as code plan j e (instruction.Load w d l) = comes code plan (owed e.is_owed) (e.old + 1) (j + 1)
leads_as code plan j e (instruction.Store w x l) = comes code plan (owed e.is_owed) (e.old + 1) (j + 1)
leads_as code plan j e (instruction.Address d l) = comes code plan (owed e.is_owed) (e.old + 1) (j + 1)
leads_as code plan j e (instruction.Element d x y size) = comes code plan (owed e.is_owed) (e.old + 1) (j + 1)
leads_as code plan j e (instruction.Jump to) = comes code plan (owed e.is_owed) to e.place
leads_as code plan j e (instruction.Branch t x y to) = comes code plan (owed e.is_owed) (e.old + 1) (j + 1) && comes code plan (owed e.is_owed) to e.place
leads_as code plan j e (instruction.Call f) = is_plain_at plan (j + 1) && comes code plan 0 (e.old + 1) (j + 1)
leads_as code plan j e instruction.PutByte = comes code plan (owed e.is_owed) (e.old + 1) (j + 1)
leads_as code plan j e instruction.GetByte = comes code plan (owed e.is_owed) (e.old + 1) (j + 1)
leads_as code plan j e instruction.Exit = true
leads_as code plan j e instruction.Return = true

-- a jump, where the old instruction only leads on, and a jump is owed
abbrev pub jumps_as : List Instruction → List Stand → Stand → Bool
jumps_as code plan e = e.is_owed && holds_in (λ w. comes code plan w.jumps w.to e.place) (onward_at code e.old)

abbrev pub keeps : List Instruction → List Stand → ℕ → Stand → Bool
keeps code plan j e = holds_in (leads_as code plan j e) (slice_get code e.old)

abbrev pub fits : List Instruction → List Stand → ℕ → Stand → Bool
fits code plan j e = if e.is_jump then jumps_as code plan e else keeps code plan j e

-- all from number j on
abbrev pub all_fit : List Instruction → List Stand → ℕ → List Stand → Bool
all_fit code plan j [] = true
all_fit code plan j (e ∷ es) = fits code plan j e && all_fit code plan (j + 1) es

-- it begins where the old code does
abbrev pub begins : Stand → Bool
begins e = (e.old == 0) && not e.is_owed

abbrev pub begins_in : List Stand → Bool
begins_in plan = holds_in begins (slice_get plan 0)
