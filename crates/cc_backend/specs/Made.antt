-- How the back end makes the file of a typed program, and its listing.
use Rattle.std.specs.Prelude.{◌≡◌, ◌≤◌, ℕ, ◌+◌, ◌*◌, Bool, true, List, ◌++◌, length, map, sum_by, slice_get, Some}
use Rattle.memory_map.specs.MemoryMap.{text_start}
use Rattle.elf_out.specs.Layout.{Parts}
use Rattle.elf_out.specs.Written as written
use Rattle.asm.specs.declared.item.Item.{Item}
use Rattle.asm.specs.Layout.{place, IsLow, AllReach}
use Rattle.asm.specs.Placed.{IsFewest}
use Rattle.srcset.specs.declared.refusal.Pos.{Pos}
use Rattle.tree.specs.Tree.{ExternalTree}
use Rattle.tree.specs.Counts.{unit_nodes}
use Rattle.tree.specs.Limits.{program_node_limit}
use Rattle.typing_spec.specs.Program.{Function, Program}
use Rattle.typing_spec.specs.WellTyped.{is_typed}
use Rattle.typing_spec.specs.Verdict.{fine}
use Rattle.typing_spec.specs.Units.{unit_typed}
use Rattle.tac_code.specs.Code as tac
use Rattle.tac_code.specs.Sound.{data_bytes}
use Rattle.tac_code.specs.Spans.{span}
use Rattle.tac_code.specs.Lowered.{IsChecked, IsLowered}
use Rattle.lower_wf.specs.Asked.{is_asked}
use Rattle.frames_code.specs.Code as flat
use Rattle.frames_code.specs.Code.{frame_bytes}
use Rattle.frames_code.specs.Sound as flat_sound
use Rattle.frames.specs.Translated.{flat_program}
use Rattle.frames_regalloc.specs.Renumbered.{IsRenumbered}
use Rattle.select.specs.Program.{program_items, function_items, shorten_calls, calls_are_near}
use Rattle.cc_backend.specs.Better.{IsBetter}
use Rattle.cc_backend.specs.FlatImages.{IsImageOf}
use Rattle.cc_backend.specs.Runs.{RunsAs}

-- the nodes of the definitions of functions
abbrev pub nodes_of : List Function → ℕ
nodes_of fs = sum_by (λ f. f.nodes) fs

-- the facts that the constraints give, and the limit of a program's nodes
pub record IsReady (p : Program) : Type 0 where
  pub checked : IsChecked p
  pub asked : is_asked p ≡ true
  pub few : nodes_of p.functions ≤ program_node_limit

-- the functions of a unit's program have no more nodes than the unit
abbrev pub UnitsAreSmall : Type 0
UnitsAreSmall =
    (stack : ℕ) (texts : List (List ℕ)) (whole : Pos) (unit : List ExternalTree) (p : Program) → unit_typed stack texts whole unit ≡ fine p
    → nodes_of p.functions ≤ unit_nodes unit

-- Flat code of the program: its three-address code is flattened, and made better, and the words of its frames are renumbered by their use.
pub record IsFlatCodeOf (p : Program) (f : flat.Program) : Type 0 where
  pub code : tac.Program
  pub lowered : IsLowered p code
  pub simpler : flat.Program
  pub better : IsBetter (flat_program code) simpler
  pub renumbered : IsRenumbered simpler f
  pub sound : flat_sound.IsSoundProgram f

-- each function has a frame, which is no larger than its weight, and than its span
abbrev pub FramesFit : Program → List ℕ → Type 0
FramesFit p frames =
    (length frames ≡ length p.functions)
    × ((k : ℕ) (f : Function) (bytes : ℕ) → slice_get p.functions k ≡ Some f → slice_get frames k ≡ Some bytes → (bytes ≤ f.weight) × (bytes ≤ span f))

-- at most 128 bytes for each node, and 1024 for each function and for the code before them
abbrev pub most_text : Program → ℕ
most_text p = 1024 + sum_by (λ f. 128 * f.nodes + 1024) p.functions

-- In the text of the file, with its items at the places that these long branches give, the code of each function is at most 128 bytes for each node of its
-- definition, and 1024.
abbrev pub FunctionsFit : Program → flat.Program → (ℕ → Bool) → Type 0
FunctionsFit p code long =
    (k : ℕ) (g : Function) (f : flat.Function) → slice_get p.functions k ≡ Some g → slice_get code.functions k ≡ Some f
    → (before own behind : List Item) × (number at : ℕ) × (program_items code ≡ before ++ (own ++ behind)) × (own ≡ shorten_calls (calls_are_near code) (function_items number at f))
    × (place long text_start (program_items code) (length before + length own) ≤ place long text_start (program_items code) (length before) + (128 * g.nodes + 1024))

-- How the executable file of a program is made, with the bytes of the frame of each function. It is the image of flat code of the program, with the fewest long
-- branches, has its frames, and has a stack of `stack` bytes; so all that is known of such an image is known of the file. Its data are 16 bytes, string
-- literals and statics.
pub record IsFileOf (stack : ℕ) (p : Program) (file frames : List ℕ) : Type 0 where
  pub well_typed : is_typed p ≡ true
  pub code : flat.Program
  pub code_is : IsFlatCodeOf p code
  pub frames_are : frames ≡ map frame_bytes code.functions
  pub frames_fit : FramesFit p frames
  pub parts : Parts
  pub stack_is : parts.stack ≡ stack
  pub file_is : file ≡ written.file_of parts
  pub image_is : IsImageOf code parts
  pub fewest : IsFewest (program_items code) text_start parts.text
  pub functions_fit : FunctionsFit p code fewest.long
  pub text_fits : length parts.text ≤ most_text p
  pub data_fits : length parts.statics ≤ 16 + data_bytes p.literals p.statics

-- The items of a file of the program with a stack of `stack` bytes, which runs as the program does: they end where the assembler takes them, each jump reaches
-- its label, and the text of the file is their assembly.
pub record AreItemsOf (stack : ℕ) (p : Program) (items : List Item) : Type 0 where
  pub file : List ℕ
  pub frames : List ℕ
  pub runs : RunsAs stack p frames file
  pub is_file : IsFileOf stack p file frames
  pub items_are : items ≡ program_items is_file.code
  pub low : IsLow text_start items
  pub reach : AllReach text_start items

-- This executable file of the program, with the bytes of each frame, and the items of this very file.
pub record IsListedFileOf (stack : ℕ) (p : Program) (file frames : List ℕ) (items : List Item) : Type 0 where
  pub runs : RunsAs stack p frames file
  pub is_file : IsFileOf stack p file frames
  pub items_are : items ≡ program_items is_file.code
  pub low : IsLow text_start items
  pub reach : AllReach text_start items
