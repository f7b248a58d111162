-- How far a literal is read.
use Rattle.std.specs.Prelude.{◌≡◌, ℕ, ◌||◌, ◌⊎◌, List, [], ◌∷◌, ◌++◌, Option, Some, None, Result, Ok, Err, if◌then◌else◌}
use Rattle.srcset.specs.declared.code.Code.{Code}
use Rattle.srcset.specs.declared.code.Code.TheVariants.{BadLiteral, ConstantOutOfRange, LeftOutLiteral}
use Rattle.srcset.specs.declared.refusal.Pos.{Pos}
use Rattle.srcset.specs.declared.refusal.Refusal.{Refusal}
use Rattle.srcset.specs.declared.refusal.Refusal.TheVariants.{Memory, At}
use Rattle.std.specs.List.{list_any}
use Rattle.lexer.specs.declared.literals.Element.{Element}
use Rattle.lexer.specs.declared.literals.Element.TheVariants.{Unreadable}
use Rattle.lexer.specs.declared.literals.Part.{Part}
use Rattle.lexer.specs.declared.literals.Met.{Met}
use Rattle.lexer.specs.Literals.{part, first_part, is_universal, is_unreadable, is_large, bytes_of}

-- the first part
abbrev pub part_at : List ℕ → Part
part_at [] = part 1 Unreadable
part_at (b ∷ bs) = first_part b bs

-- the faults of elements, in addition to those met before them
abbrev pub met_with : Met → List Element → Met
met_with m es = record { universal = m.universal || list_any is_universal es; unreadable = m.unreadable || list_any is_unreadable es; large = m.large || list_any is_large es }

-- these elements are read: their bytes are appended, and their faults are collected
pub record IsDecoded (old : List ℕ) (met : Met) (es : List Element) (new : List ℕ) (after : Met) : Type 0 where
  pub bytes_are : new ≡ old ++ bytes_of es
  pub met_is : after ≡ met_with met es

abbrev pub fault_of : Met → Option Code
fault_of m = if m.universal then Some LeftOutLiteral else if m.unreadable then Some BadLiteral else if m.large then Some ConstantOutOfRange else None

-- the bytes of the literal are appended
abbrev pub IsAppended : Result (List ℕ) Code → List ℕ → List ℕ → Type 0
IsAppended (Ok bytes) old new = new ≡ old ++ bytes
IsAppended (Err code) old new = ⊥

-- the refusal is out of memory, or this fault, at this place
abbrev pub IsRefusal : {X : Type 0} → Refusal → Pos → Result X Code → Type 0
IsRefusal e pos (Ok x) = e ≡ Memory
IsRefusal e pos (Err code) = (e ≡ Memory) ⊎ (e ≡ At code pos)

-- the refusal is this fault, at this place, and nothing else is refused
abbrev pub IsFaultAt : {X : Type 0} → Refusal → Pos → Result X Code → Type 0
IsFaultAt e pos (Ok x) = ⊥
IsFaultAt e pos (Err code) = e ≡ At code pos

-- the refusal is this fault, and out of memory only where there is no fault
abbrev pub IsFaultFirst : {X : Type 0} → Refusal → Pos → Result X Code → Type 0
IsFaultFirst e pos (Ok x) = e ≡ Memory
IsFaultFirst e pos (Err code) = e ≡ At code pos

-- the result of a literal with these bytes
abbrev pub by_fault : Option Code → List ℕ → Result (List ℕ) Code
by_fault (Some code) bytes = Err code
by_fault None bytes = Ok bytes
