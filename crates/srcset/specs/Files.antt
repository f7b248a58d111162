-- A set of source files, seen as the list of its (name, bytes) pairs in the order in which they were added.
use Rattle.std.specs.Prelude.{◌≤◌, ℕ, List, Bool, IsTrue, Option, Some, None, length, map, is_some, nat_eq, nat_le, nat_lt, ◌&&◌, ◌||◌, not, if◌then◌else◌}
use Rattle.std.specs.List.{list_all}
use Rattle.std.specs.Map.{lookup}
use Rattle.std.specs.Str.{bytes_eq}
use Rattle.srcset.specs.declared.code.Code.{Code}
use Rattle.srcset.specs.declared.code.Code.TheVariants.{BadFileName, FileGivenTwice, FileSizeLimit, FileLimit}
use Rattle.srcset.specs.NameTable.{Texts, NumbersOnce}

-- the names and the bytes, in order
abbrev pub Files : Type 0
Files = List (List ℕ × List ℕ)

-- the names, in order
abbrev pub names_of : Files → Texts
names_of files = map (λ f. f.0) files

-- the bytes of the file with this name
abbrev pub file_of : Files → List ℕ → Option (List ℕ)
file_of files name = lookup (bytes_eq name) files

abbrev pub max_file_bytes : ℕ
max_file_bytes = 1048576

abbrev pub max_files : ℕ
max_files = 256

-- a byte that a file's name may contain: printable, and none of '"', '\', '<' and '>'
abbrev pub is_name_byte : ℕ → Bool
is_name_byte b = nat_le 32 b && nat_le b 126 && not (nat_eq b 34 || nat_eq b 92 || nat_eq b 60 || nat_eq b 62)

abbrev pub is_file_name : List ℕ → Bool
is_file_name name = nat_le 1 (length name) && nat_le (length name) 255 && list_all is_name_byte name

-- the code of the fault at adding a file, by the first rule that is violated
abbrev pub add_fault : Files → List ℕ → List ℕ → Option Code
add_fault files name bytes =
    if not (is_file_name name) then Some BadFileName
    else if is_some (file_of files name) then Some FileGivenTwice
    else if nat_lt max_file_bytes (length bytes) then Some FileSizeLimit
    else if nat_le max_files (length files) then Some FileLimit
    else None

-- neither the files are too many nor is one too large
abbrev pub IsWithinLimits : Files → Type 0
IsWithinLimits files = (length files ≤ max_files) × IsTrue (list_all (λ f. nat_le (length f.1) max_file_bytes) files)

-- the invariant of every set: the limits, and names that are allowed, each of them once
abbrev pub IsFileMap : Files → Type 0
IsFileMap files = IsWithinLimits files × IsTrue (list_all (λ f. is_file_name f.0) files) × NumbersOnce (names_of files)
