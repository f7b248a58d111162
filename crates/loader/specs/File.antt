-- The contents of an ELF32 executable for RISC-V: System V gABI, chapters 4 and 5; RISC-V ELF psABI, "ELF Object Files".
use Rattle.std.specs.Prelude.{ℕ, zero, suc, ◌+◌, ◌*◌, ◌-◌, ◌/◌, ◌%◌, ◌^◌, ◌==◌, ◌&&◌, ◌||◌, not, Bool, true, false, if◌then◌else◌, List, [], ◌∷◌, ◌++◌, length, nat_le, nat_lt, slice_index, Option, Some, None, Result, Ok, Err}
use Rattle.std.specs.List.{sum_by, list_all}
use Rattle.rv32.specs.Space.{Space, half_at, word_at}
use Rattle.loader.specs.declared.header.LoadHeader.{LoadHeader}
use Rattle.memory_map.specs.MemoryMap.{max_memory}
use Rattle.loader.specs.declared.fault.LoadFault.{LoadFault}
use Rattle.loader.specs.declared.fault.LoadFault.TheVariants.{TooShort, NotElf32, NotExecutable, NotRiscV, BadProgramHeader, Overlap, TooMuch}

-- ---- the fields of the ELF header

abbrev pub half : List ℕ → ℕ → ℕ
half file at = half_at (slice_index file) at

abbrev pub word : List ℕ → ℕ → ℕ
word file at = word_at (slice_index file) at

abbrev pub e_type : List ℕ → ℕ
e_type file = half file 16

abbrev pub e_machine : List ℕ → ℕ
e_machine file = half file 18

abbrev pub e_version : List ℕ → ℕ
e_version file = word file 20

abbrev pub e_entry : List ℕ → ℕ
e_entry file = word file 24

abbrev pub e_phoff : List ℕ → ℕ
e_phoff file = word file 28

abbrev pub e_flags : List ℕ → ℕ
e_flags file = word file 36

abbrev pub e_phentsize : List ℕ → ℕ
e_phentsize file = half file 42

abbrev pub e_phnum : List ℕ → ℕ
e_phnum file = half file 44

-- ---- the program headers of type PT_LOAD, which is 1

-- p_offset, p_vaddr, p_filesz, p_memsz and p_flags
abbrev pub load_header_at : List ℕ → ℕ → LoadHeader
load_header_at file at = record { offset = word file (at + 4); address = word file (at + 8); file_size = word file (at + 16); memory_size = word file (at + 20); flags = word file (at + 24) }

abbrev pub loads_at : List ℕ → ℕ → List LoadHeader
loads_at file at = if word file at == 1 then load_header_at file at ∷ [] else []

-- those of n headers from `at` on
abbrev pub loads_from : List ℕ → ℕ → ℕ → List LoadHeader
loads_from file at zero = []
loads_from file at (suc n) = loads_at file at ++ loads_from file (at + 32) n

unfoldable pub loads : List ℕ → List LoadHeader
loads file = loads_from file (e_phoff file) (e_phnum file)

-- ---- the faults

-- the seven bytes of the identification, and e_version
abbrev pub is_elf32 : List ℕ → Bool
is_elf32 file =
    slice_index file 0 == 0x7F && slice_index file 1 == 0x45 && slice_index file 2 == 0x4C && slice_index file 3 == 0x46
    && slice_index file 4 == 1 && slice_index file 5 == 1 && slice_index file 6 == 1
    && e_version file == 1

-- 1 to 16 headers of 32 bytes each, inside the file
abbrev pub is_table : List ℕ → Bool
is_table file =
    e_phentsize file == 32 && nat_le 1 (e_phnum file) && nat_le (e_phnum file) 16
    && nat_le (e_phoff file + 32 * e_phnum file) (length file)

-- the bytes, where there are any, lie inside a file of n bytes, and memory has room for them
abbrev pub is_sound : ℕ → LoadHeader → Bool
is_sound n l = (l.file_size == 0 || nat_le (l.offset + l.file_size) n) && nat_le l.file_size l.memory_size

abbrev pub all_sound : ℕ → List LoadHeader → Bool
all_sound n ls = list_all (is_sound n) ls

-- no address is in both
abbrev pub apart : LoadHeader → LoadHeader → Bool
apart l k = l.memory_size == 0 || k.memory_size == 0 || nat_le (l.address + l.memory_size) k.address || nat_le (k.address + k.memory_size) l.address

abbrev pub apart_from_all : LoadHeader → List LoadHeader → Bool
apart_from_all l ls = list_all (apart l) ls

-- each ends in the address space, and no two share an address
abbrev pub are_apart : List LoadHeader → Bool
are_apart [] = true
are_apart (l ∷ rest) = nat_le (l.address + l.memory_size) (2 ^ 32) && apart_from_all l rest && are_apart rest

-- the first fault of the ELF header and of the table
abbrev pub header_fault : List ℕ → Option LoadFault
header_fault file =
    if nat_lt (length file) 52 then Some TooShort else
    if not (is_elf32 file) then Some NotElf32 else
    if not (e_type file == 2) then Some NotExecutable else
    if not (e_machine file == 243 && e_flags file == 0) then Some NotRiscV else
    if not (is_table file) then Some BadProgramHeader else None

-- and of the headers of segments, in a file of n bytes
abbrev pub loads_fault : ℕ → List LoadHeader → Option LoadFault
loads_fault n ls =
    if not (all_sound n ls) then Some BadProgramHeader else
    if not (are_apart ls) then Some Overlap else
    if nat_lt max_memory (sum_by (λ l. l.memory_size) ls) then Some TooMuch else None

abbrev pub first_of : Option LoadFault → Option LoadFault → Option LoadFault
first_of None f = f
first_of (Some e) f = Some e

-- the first fault of the file
abbrev pub fault_of : List ℕ → Option LoadFault
fault_of file = first_of (header_fault file) (loads_fault (length file) (loads file))

-- ---- the image

abbrev pub holds : LoadHeader → ℕ → Bool
holds l a = nat_le l.address a && nat_lt a (l.address + l.memory_size)

-- the file's byte, or zero past them
abbrev pub byte_of : List ℕ → LoadHeader → ℕ → ℕ
byte_of file l a = if nat_lt (a - l.address) l.file_size then slice_index file (l.offset + (a - l.address)) else 0

-- the property that the first segment that holds the address a gives it
abbrev pub said : {X : Type 0} → (LoadHeader → ℕ → X) → X → List LoadHeader → ℕ → X
said f none [] a = none
said f none (l ∷ rest) a = if holds l a then f l a else said f none rest a

-- p_flags: 1 to execute, 2 to write, 4 to read
abbrev pub image_space : List ℕ → Space
image_space file = record {
  byte = said (byte_of file) 0 (loads file);
  can_read = said (λ l a. l.flags / 4 % 2 == 1) false (loads file);
  can_write = said (λ l a. l.flags / 2 % 2 == 1) false (loads file);
  can_execute = said (λ l a. l.flags % 2 == 1) false (loads file);
}

-- where a program begins, and its memory
pub record Image : Type 0 where
  pub entry : ℕ
  pub space : Space

abbrev pub answer_of : Option LoadFault → Image → Result Image LoadFault
answer_of None image = Ok image
answer_of (Some fault) image = Err fault

-- the image of a file, or its first fault
unfoldable pub file_image : List ℕ → Result Image LoadFault
file_image file = answer_of (fault_of file) (record { entry = e_entry file; space = image_space file })
