-- Functions and programs whose constants were hoisted.
use Rattle.std.specs.Prelude.{◌≡◌, ◌≤◌, ◌<◌, ℕ, ◌+◌, ◌^◌, List, [], ◌∷◌, length, slice_get, Some, true}
use Rattle.std.specs.List.{list_all}
use Rattle.frames_code.specs.declared.code.Instruction.{Instruction}
use Rattle.frames_code.specs.Code.{Function, Program, frame_bytes}
use Rattle.frames.specs.Costs.{function_bytes, function_bytes_in}
use Rattle.frames_hoist.specs.declared.homes.Home.{Home}
use Rattle.frames_hoist.specs.declared.homes.Home.TheVariants as home
use Rattle.frames_hoist.specs.Optimised.{IsOptimised}
use Rattle.frames_hoist.specs.layer.Hoisting.{is_fine, are_straight, hoisted, filled_at}

-- how many words more the frame has where so many constants have places
abbrev pub words_more : Home → ℕ → ℕ
words_more (home.Words c) n = n
words_more (home.Temporaries t) n = 0

-- all of a frame's words are in registers where some of them are the constants
abbrev pub resident_in : Home → (resident cells : ℕ) → ℕ
resident_in (home.Words c) resident cells = cells
resident_in (home.Temporaries t) resident cells = resident

abbrev pub with_code : Function → Home → ℕ → List Instruction → Function
with_code f h n code = record {
  code = code;
  cells = f.cells + words_more h n;
  resident = resident_in h f.resident (f.cells + words_more h n);
  area = f.area;
  outgoing = f.outgoing;
  gives = f.gives;
}

-- the function with the words of the pool in their places
abbrev pub with_words : Function → Home → List ℕ → ℕ → Function
with_words f h pool start = with_code f h (length pool) (hoisted h pool start 0 0 f.code)

-- the places are words behind the function's own, all of them in registers, and it has no arrays; or they are registers of temporaries
abbrev pub HasPlaces : Function → Home → ℕ → Type 0
HasPlaces f (home.Words c) n = (f.area ≡ 0) × (c ≡ f.cells) × (f.cells + n ≤ 12)
HasPlaces f (home.Temporaries t) n = t + n ≤ 8

-- it has places for n constants, and its frame, which is within the reach of 12 bits, stays as large
pub record HasRoom (f : Function) (h : Home) (n : ℕ) : Type 0 where
  pub few : n ≤ 4
  pub places : HasPlaces f h n
  pub frame : frame_bytes (with_code f h n f.code) ≡ frame_bytes f
  pub near : frame_bytes f < 0x800

-- the first instructions, to which no jump leads, put all n constants into their places
pub record IsReady (f : Function) (h : Home) (n start : ℕ) : Type 0 where
  pub fine : list_all (is_fine h start) f.code ≡ true
  pub straight : are_straight start 0 f.code ≡ true
  pub within : start ≤ length f.code
  pub full : filled_at n start 0 0 f.code start ≡ n

pub record IsPooled (f g : Function) : Type 0 where
  pub home : Home
  pub pool : List ℕ
  pub start : ℕ
  pub is : g ≡ with_words f home pool start
  pub words : (k w : ℕ) → slice_get pool k ≡ Some w → w < 2 ^ 32
  pub room : HasRoom f home (length pool)
  pub ready : IsReady f home (length pool) start
  pub bytes : function_bytes_in g ≤ function_bytes f

pub data IsHoistedFunction (f g : Function) : Type 0 where
  stayed : (is : g ≡ f) → IsHoistedFunction f g
  pooled : (is : IsPooled f g) → IsHoistedFunction f g

abbrev pub AreHoisted : List Function → List Function → Type 0
AreHoisted [] [] = Unit {0}
AreHoisted [] (g ∷ gs) = ⊥
AreHoisted (f ∷ fs) [] = ⊥
AreHoisted (f ∷ fs) (g ∷ gs) = IsHoistedFunction f g × AreHoisted fs gs

-- so functions whose constants were hoisted one by one are a program optimised
abbrev pub FunctionsAreHoisted : Type 0
FunctionsAreHoisted = (p q : Program) → AreHoisted p.functions q.functions → q.statics ≡ p.statics → q.main ≡ p.main → IsOptimised p q
