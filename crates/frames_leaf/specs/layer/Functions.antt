-- Functions whose words live in temporaries, and programs of them.
use Rattle.std.specs.Prelude.{◌≡◌, ◌≤◌, ◌<◌, ℕ, ◌+◌, List, [], ◌∷◌, length, map, true}
use Rattle.std.specs.List.{list_all}
use Rattle.frames_code.specs.declared.code.Instruction.{Instruction}
use Rattle.frames_code.specs.Code.{Function, Program}
use Rattle.frames_leaf.specs.Allocated.{IsAllocated}
use Rattle.frames_leaf.specs.layer.Moving.{is_leaf, moved}

abbrev pub with_code : Function → List Instruction → Function
with_code f code = record { code = code; cells = f.cells; resident = f.resident; area = f.area; outgoing = f.outgoing; gives = f.gives }

-- g is f, which calls nothing, with these words of its frame in temporaries that it does not name
pub record IsMoved (f g : Function) : Type 0 where
  pub words : List ℕ
  pub first : ℕ
  pub past_result : 0 < first
  pub registers : first + length words ≤ 8
  pub leaf : list_all (is_leaf first) f.code ≡ true
  pub is : g ≡ with_code f (map (moved first words) f.code)

pub data IsLeafAllocated (f g : Function) : Type 0 where
  stayed : (is : g ≡ f) → IsLeafAllocated f g
  changed : (is : IsMoved f g) → IsLeafAllocated f g

abbrev pub AreLeafAllocated : List Function → List Function → Type 0
AreLeafAllocated [] [] = Unit {0}
AreLeafAllocated [] (g ∷ gs) = ⊥
AreLeafAllocated (f ∷ fs) [] = ⊥
AreLeafAllocated (f ∷ fs) (g ∷ gs) = IsLeafAllocated f g × AreLeafAllocated fs gs

-- so functions that were changed one by one are a program with registers allocated
abbrev pub FunctionsAreAllocated : Type 0
FunctionsAreAllocated = (p q : Program) → AreLeafAllocated p.functions q.functions → q.statics ≡ p.statics → q.main ≡ p.main → IsAllocated p q
