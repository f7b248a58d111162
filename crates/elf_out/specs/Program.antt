-- The memory of a program before its first instruction.
use Rattle.std.specs.Prelude.{ℕ, ◌+◌, ◌-◌, ◌&&◌, ◌||◌, Bool, if◌then◌else◌, length, nat_le, nat_lt, slice_index}
use Rattle.rv32.specs.Space.{Space}
use Rattle.loader.specs.File.{Image}
use Rattle.memory_map.specs.MemoryMap.{text_start, data_start, stack_start}
use Rattle.elf_out.specs.Layout.{Parts}

-- a is one of the n addresses from start on
abbrev pub is_within : ℕ → ℕ → ℕ → Bool
is_within start n a = nat_le start a && nat_lt a (start + n)

abbrev pub is_text : Parts → ℕ → Bool
is_text p a = is_within text_start (length p.text) a

abbrev pub is_data : Parts → ℕ → Bool
is_data p a = is_within (data_start (length p.text)) (length p.statics) a

abbrev pub is_stack : Parts → ℕ → Bool
is_stack p a = is_within (stack_start p.stack) p.stack a

-- the text, which may only be executed; the data and the stack, which may be read and written; all else is zero
unfoldable pub program_space : Parts → Space
program_space p = record {
  byte = λ a.
      if is_text p a then slice_index p.text (a - text_start) else
      if is_data p a then slice_index p.statics (a - data_start (length p.text)) else 0;
  can_read = λ a. is_data p a || is_stack p a;
  can_write = λ a. is_data p a || is_stack p a;
  can_execute = λ a. is_text p a;
}

-- which begins with the first byte of the text
abbrev pub program_image : Parts → Image
program_image p = record { entry = text_start; space = program_space p }
