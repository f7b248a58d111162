-- The outcome of the lines from some line on, within the conditionals that are open there, innermost first.
use Rattle.std.specs.Prelude.{ℕ, suc, List, [], ◌∷◌, length, Bool, true, false}
use Rattle.srcset.specs.declared.refusal.Pos.{Pos}
use Rattle.pp.specs.declared.conditionals.BranchState.{BranchState}
use Rattle.pp.specs.declared.conditionals.BranchState.TheVariants.{Waiting, Taken, Past, Skipped}
use Rattle.pp.specs.declared.conditionals.Open.{Open}
use Rattle.phases.specs.Token.{Token}
use Rattle.pp.specs.Lines.{Line}
use Rattle.pp.specs.Groups.{Group, missing_end, unbalanced, Role, closes, role_of, is_else, place_of, Parsed, to_end, to_line, ended_by, whole_file, with_text}
use Rattle.pp.specs.Phase4.{State, Outcome, goes, ◌>>=◌, Around, group_done, skipped, unless_fault, branch_taken, else_checked, end_checked}

abbrev pub nowhere : Pos
nowhere = record { file = 0; line = 0 }

abbrev pub is_taken : BranchState → Bool
is_taken Taken = true
is_taken Waiting = false
is_taken Past = false
is_taken Skipped = false

-- whether lines are done here, and not skipped
abbrev pub is_active : List Open → Bool
is_active [] = true
is_active (o ∷ os) = is_taken o.branch

-- a group of a branch
abbrev pub within : BranchState → Around → Pos → ℕ → Group → State → Outcome State
within Taken around at depth g s = group_done around at depth g s
within Waiting around at depth g s = unless_fault (skipped s at depth g) s
within Past around at depth g s = unless_fault (skipped s at depth g) s
within Skipped around at depth g s = unless_fault (skipped s at depth g) s

abbrev pub taken_if : Bool → BranchState
taken_if true = Taken
taken_if false = Waiting

abbrev pub to_branch : BranchState → State → Outcome (BranchState × State)
to_branch b s = goes (b, s)

-- a line that begins a further branch
abbrev pub next_branch : BranchState → Around → Line → State → Outcome (BranchState × State)
next_branch Waiting around l s = branch_taken around.texts l s >>= λ r. to_branch (taken_if r.0) r.1
next_branch Taken around l s = else_checked l s >>= to_branch Past
next_branch Past around l s = else_checked l s >>= to_branch Past
next_branch Skipped around l s = to_branch Skipped s

-- before the first branch of a conditional that opens here
abbrev pub opening : Bool → BranchState
opening true = Waiting
opening false = Skipped

-- an #endif
abbrev pub closed_by : BranchState → Line → State → Outcome State
closed_by Waiting l s = end_checked l s
closed_by Taken l s = end_checked l s
closed_by Past l s = end_checked l s
closed_by Skipped l s = goes s

abbrev pub open_at : Pos → BranchState → Line → Open
open_at at b l = record { at = at; branch = b; behind_else = is_else l.tokens }

-- an #elif or #else: none may follow an #else
abbrev pub divided : Bool → BranchState → Around → Pos → ℕ → Group → Line → (Open → State → Outcome State) → State → Outcome State
divided true b around at depth g l rest s = within b around at depth (ended_by (unbalanced (place_of l.tokens)) g) s
divided false b around at depth g l rest s =
    within b around at depth g s >>= λ s. next_branch b around l s >>= λ r. rest (open_at at r.0 l) r.1

abbrev pub behind_group : Role → Bool → BranchState → Around → Pos → ℕ → Group → Line → (Open → State → Outcome State) → (State → Outcome State) → State → Outcome State
behind_group closes e b around at depth g l rest out s = within b around at depth g s >>= λ s. closed_by b l s >>= out
behind_group _ e b around at depth g l rest out s = divided e b around at depth g l rest s

unfoldable pub rest_done : Around → List Open → Parsed → State → Outcome State
rest_done around [] p s = group_done around nowhere 0 (whole_file p) s
rest_done around (o ∷ os) (to_end g) s = within o.branch around o.at (suc (length os)) (ended_by missing_end g) s
rest_done around (o ∷ os) (to_line g l rest) s =
    behind_group (role_of l.tokens) o.behind_else o.branch around o.at (suc (length os)) g l (λ o s. rest_done around (o ∷ os) rest s) (λ s. rest_done around os rest s) s

-- ---- runs

-- a run that has begun, in front of a group
abbrev pub pending : Bool → List Token → Group → Group
pending false xs g = g
pending true xs g = with_text xs g
