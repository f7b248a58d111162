-- The items of a whole flat program.
use Rattle.std.specs.Prelude.{◌≡◌, ◌≤◌, ℕ, ◌+◌, nat_le, if◌then◌else◌, Bool, List, [], ◌∷◌, ◌++◌, length, map}
use Rattle.memory_map.specs.MemoryMap.{stack_end}
use Rattle.asm.specs.declared.item.Item.{Item}
use Rattle.asm.specs.Layout.{longest, nearer}
use Rattle.asm.specs.declared.item.Item.TheVariants as item
use Rattle.frames_code.specs.declared.code.Instruction.{Instruction}
use Rattle.frames_code.specs.Code as flat
use Rattle.frames_code.specs.Code.{Function}
use Rattle.frames_code.specs.Sound.{places_of}
use Rattle.select.specs.Selected.{entry, exit, gp_offset, items_of, shortened}

-- the items of a function's instructions from number k on, each after its mark; the function's end has a mark too
abbrev pub code_items : Function → ℕ → ℕ → List Instruction → List Item
code_items f first k [] = item.Mark (first + k) ∷ []
code_items f first k (x ∷ xs) = item.Mark (first + k) ∷ (items_of f first (shortened f.code k x) ++ code_items f first (k + 1) xs)

-- function number k
abbrev pub function_items : ℕ → ℕ → Function → List Item
function_items k first f = item.Mark k ∷ (entry f ++ code_items f first 0 f.code)

-- the functions from number k on
abbrev pub functions_items : ℕ → ℕ → List Function → List Item
functions_items k first [] = []
functions_items k first (f ∷ fs) = function_items k first f ++ functions_items (k + 1) (first + (length f.code + 1)) fs

-- the program begins at the stack's end, with gp among the statics, by a call of main, and ends with main's result as its status
abbrev pub start_items : ℕ → List Item
start_items main = item.Constant 2 stack_end ∷ item.DataAddress 3 gp_offset ∷ item.Call main ∷ exit

-- The labels: first those of the functions, by their numbers; then, a function after the other, those of its instructions and of
-- its end.
abbrev pub far_items : flat.Program → List Item
far_items p = start_items p.main ++ functions_items 0 (length p.functions) p.functions

-- ---- near calls

abbrev pub shorten_calls : (near : Bool) → List Item → List Item
shorten_calls near xs = if near then map nearer xs else xs

-- all items together are no longer than the reach of JAL
abbrev pub are_near : List Item → Bool
are_near xs = nat_le (longest xs) 1048574

-- then each call of a function is near
abbrev pub calls_are_near : flat.Program → Bool
calls_are_near p = are_near (far_items p)

abbrev pub program_items : flat.Program → List Item
program_items p = start_items p.main ++ shorten_calls (calls_are_near p) (functions_items 0 (length p.functions) p.functions)

-- ---- laws of near calls

abbrev pub NearCallsAreShorter : Type 0
NearCallsAreShorter = (near : Bool) (xs : List Item) → longest (shorten_calls near xs) ≤ longest xs

abbrev pub CallsShortenInParts : Type 0
CallsShortenInParts = (near : Bool) (xs ys : List Item) → shorten_calls near (xs ++ ys) ≡ shorten_calls near xs ++ shorten_calls near ys

-- ---- labels

abbrev pub labels_of : flat.Program → ℕ
labels_of p = length p.functions + places_of p.functions
