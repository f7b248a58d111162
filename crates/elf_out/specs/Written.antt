-- The file of a program, byte by byte: System V gABI, chapter 4, "ELF Header", and chapter 5, "Program Header".
use Rattle.std.specs.Prelude.{ℕ, ◌+◌, ◌-◌, List, [], ◌∷◌, ◌++◌, length, replicate}
use Rattle.std.specs.List.{flat_map}
use Rattle.byteorder.specs.Endian.{little_bytes}
use Rattle.memory_map.specs.MemoryMap.{text_start, data_start, text_offset, data_offset, stack_start}
use Rattle.elf_out.specs.Layout.{Parts}

-- numbers of two and of four bytes each
abbrev pub halves : List ℕ → List ℕ
halves ns = flat_map (little_bytes 2) ns

abbrev pub words : List ℕ → List ℕ
words ns = flat_map (little_bytes 4) ns

abbrev pub zeros : ℕ → List ℕ
zeros n = replicate n 0

-- 32 bits, little endian, version 1
abbrev pub identification : List ℕ
identification = 0x7F ∷ 0x45 ∷ 0x4C ∷ 0x46 ∷ 1 ∷ 1 ∷ 1 ∷ 0 ∷ 0 ∷ 0 ∷ 0 ∷ 0 ∷ 0 ∷ 0 ∷ 0 ∷ 0 ∷ []

-- an executable for RISC-V; version 1, the entry, the program headers at byte 52, no section headers, e_flags 0;
-- headers of 52 and of 32 bytes, 3 of the latter, and none of sections
abbrev pub elf_header : List ℕ
elf_header =
    identification
    ++ halves (2 ∷ 243 ∷ [])
    ++ words (1 ∷ text_start ∷ 52 ∷ 0 ∷ 0 ∷ [])
    ++ halves (52 ∷ 32 ∷ 3 ∷ 0 ∷ 0 ∷ 0 ∷ [])

-- of type PT_LOAD: offset, address, physical address, size in the file, size in memory, flags, alignment
abbrev pub program_header : ℕ → ℕ → ℕ → ℕ → ℕ → List ℕ
program_header offset address file_size memory_size flags =
    words (1 ∷ offset ∷ address ∷ address ∷ file_size ∷ memory_size ∷ flags ∷ 4096 ∷ [])

-- of n bytes of text, m of data and s of stack; flags: 1 to execute, 2 to write, 4 to read
unfoldable pub headers_of : ℕ → ℕ → ℕ → List ℕ
headers_of n m s =
    elf_header
    ++ program_header text_offset text_start n n 1
    ++ program_header (data_offset n) (data_start n) m m 6
    ++ program_header 0 (stack_start s) 0 s 6

-- the headers, 148 bytes; the text; the data, with which the file ends
unfoldable pub file_of : Parts → List ℕ
file_of p =
    let n = length p.text in
    headers_of n (length p.statics) p.stack ++ zeros (text_offset - 148) ++ p.text ++ zeros (data_start n - (text_start + n)) ++ p.statics
