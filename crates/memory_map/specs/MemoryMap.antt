-- Where the parts of a program lie in memory and in its file. A file offset of text or data is 0x10000 less than the address.
use Rattle.std.specs.Prelude.{◌≡◌, ◌≤◌, ℕ, ◌+◌, ◌*◌, ◌-◌, ◌/◌, ◌%◌}

abbrev pub text_start : ℕ
text_start = 0x11000

abbrev pub text_offset : ℕ
text_offset = 0x1000

abbrev pub page : ℕ
page = 4096

-- the first multiple of a page not below the end of a text of n bytes
abbrev pub data_start : ℕ → ℕ
data_start n = (text_start + n + 4095) / page * page

abbrev pub data_offset : ℕ → ℕ
data_offset n = data_start n - 0x10000

-- the zero bytes with which the data begins
abbrev pub data_guard : ℕ
data_guard = 16

-- the first address past the stack
abbrev pub stack_end : ℕ
stack_end = 0x80000000

-- how many bytes a stack may have: whole pages, of 4096 bytes to 16 MiB
abbrev pub IsStackSize : ℕ → Type 0
IsStackSize n = (n % page ≡ 0) × (page ≤ n) × (n ≤ 16777216)

-- the address of a stack of n bytes
abbrev pub stack_start : ℕ → ℕ
stack_start n = stack_end - n

-- the bytes of the stack that a program has where no other size is requested
abbrev pub usual_stack : ℕ
usual_stack = 0x100000

-- the most bytes of memory that the segments of a file take together
abbrev pub max_memory : ℕ
max_memory = 134217728

-- the most bytes that the text and the data of a program have together: the bytes that the largest stack, of 16 MiB, leaves
abbrev pub max_image : ℕ
max_image = 117440512
