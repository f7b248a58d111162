-- The files that a caller gives: their texts one after another, and the lengths of these.
use Rattle.std.specs.Prelude.{◌≡◌, ◌⊎◌, ℕ, ◌+◌, List, [], ◌∷◌, ◌++◌, map, length, if◌then◌else◌}
use Rattle.std.specs.Str.{is_utf8, IsUtf8}
use Rattle.srcset.specs.Files.{Files, add_fault}
use Rattle.srcset.specs.Fault.{IsFaultOf, IsFaultOrMemory, IsMemoryFault}
use Rattle.srcset.specs.declared.fault.Fault.{Fault}
use Rattle.srcset.specs.declared.code.Code.TheVariants.{BadFileName}
use Rattle.zikorape.specs.declared.files.FileLengths.{FileLengths}

-- the sum of the lengths
abbrev pub total : List FileLengths → ℕ
total [] = 0
total (f ∷ rest) = f.name + f.bytes + total rest

-- the name of each file and its bytes, one after another
abbrev pub texts_of : Files → List ℕ
texts_of [] = []
texts_of (f ∷ rest) = f.0 ++ f.1 ++ texts_of rest

abbrev pub lengths_of : List ℕ × List ℕ → FileLengths
lengths_of f = record { name = length f.0; bytes = length f.1 }

-- these are the files of the texts and the lengths, in order
pub record AreGiven (texts : List ℕ) (lengths : List FileLengths) (files : Files) : Type 0 where
  pub texts_are : texts ≡ texts_of files
  pub lengths_are : lengths ≡ map lengths_of files

-- why a file is not added to those before it: its name is not UTF-8 (102), or a set refuses it (101, 102, 701, 702); or memory ran out
abbrev pub IsFaultOfFile : Files → List ℕ → List ℕ → Fault → Type 0
IsFaultOfFile before name bytes fault =
    (IsUtf8 name × IsFaultOf fault (add_fault before name bytes) name 0)
    ⊎ ((¬ IsUtf8 name) × IsFaultOrMemory fault BadFileName [] 0)
    ⊎ IsMemoryFault fault

-- the first of the files that is refused, after those before it and before the rest, and why
pub record FailsToGive (texts : List ℕ) (lengths : List FileLengths) (fault : Fault) : Type 0 where
  pub before : Files
  pub name : List ℕ
  pub bytes : List ℕ
  pub rest : List ℕ
  pub more : List FileLengths
  pub texts_are : texts ≡ texts_of before ++ name ++ bytes ++ rest
  pub lengths_are : lengths ≡ map lengths_of before ++ lengths_of (name, bytes) ∷ more
  pub fault_is : IsFaultOfFile before name bytes fault

-- the bytes, where they are UTF-8, and else none
abbrev pub text_or_empty : List ℕ → List ℕ
text_or_empty bytes = if is_utf8 bytes then bytes else []
