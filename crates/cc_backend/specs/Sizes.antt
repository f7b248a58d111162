-- How many bytes the code of a lowered and flattened function takes, by the code that `select` emits for it.
use Rattle.std.specs.Prelude.{◌≡◌, ◌≤◌, ℕ, ◌+◌, ◌*◌, slice_get, Some}
use Rattle.typing_spec.specs.Program as typed
use Rattle.tac_code.specs.Code as tac
use Rattle.tac_code.specs.Lowered.{IsLowered, IsChecked}
use Rattle.frames_code.specs.Code as flat
use Rattle.frames.specs.Costs.{function_bytes_in}
use Rattle.select_correct.specs.Reaching.{rows_of, IsShortProgram}
use Rattle.cc_backend.specs.Forms.{IsFormOf}

-- The rows of `select`, whose sum bounds the items that it emits (`code_is_short`), are within flattening's table where the size of the frame is known; at most
-- twelve words live in registers, and no more than the frame has, as of each sound program.
abbrev pub RowsFit : Type 0
RowsFit = (f : flat.Function) → f.resident ≤ 12 → f.resident ≤ f.cells → rows_of f ≤ function_bytes_in f

-- at most 128 bytes a node of its definition, and 1024
abbrev pub CodeFits : Type 0
CodeFits =
    (p : typed.Program) (q : tac.Program) (f : flat.Program) → IsLowered p q → IsFormOf q f
    → (k : ℕ) (g : typed.Function) (h : flat.Function) → slice_get p.functions k ≡ Some g → slice_get f.functions k ≡ Some h
    → rows_of h ≤ 128 * g.nodes + 1024

-- no function has more code than a jump reaches: the premise of `jump_reach`
abbrev pub ProgramIsShort : Type 0
ProgramIsShort = (p : typed.Program) (q : tac.Program) (f : flat.Program) → IsChecked p → IsLowered p q → IsFormOf q f → IsShortProgram f
