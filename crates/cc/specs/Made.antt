-- How the file that the compiler returns is made: it is the image of code of the program, within the bounds of bytes.
use Rattle.std.specs.Prelude.{◌≡◌, List, ℕ}
use Rattle.srcset.specs.Files.{Files}
use Rattle.srcset.specs.NameTable.{Texts}
use Rattle.typing_spec.specs.Program.{Program}
use Rattle.memory_map.specs.MemoryMap.{text_start}
use Rattle.asm.specs.declared.item.Item.{Item}
use Rattle.asm.specs.Layout.{IsLow, AllReach}
use Rattle.select.specs.Program.{program_items}
use Rattle.cc_backend.specs.Made.{IsFileOf}
use Rattle.cc.specs.declared.compiling.Built.{Built}
use Rattle.cc.specs.Compiled.{BuildsProgram, Compiles}

-- the file of a typed program, with the frames of its entries
pub record MakesProgram (stack : ℕ) (texts : Texts) (program : Program) (built : Built) : Type 0 where
  pub builds : BuildsProgram stack texts program built
  pub file : IsFileOf stack program built.elf.items builds.frames

-- the file of the program that the set holds from this name on
pub record IsMade (stack : ℕ) (set : Files) (name : List ℕ) (built : Built) : Type 0 where
  pub compiles : Compiles stack set name built
  pub file : IsFileOf stack compiles.program built.elf.items compiles.builds.frames

-- the file of a typed program, with the items of this very file
pub record ListsProgram (stack : ℕ) (texts : Texts) (program : Program) (built : Built) (items : List Item) : Type 0 where
  pub makes : MakesProgram stack texts program built
  pub items_are : items ≡ program_items makes.file.code
  pub low : IsLow text_start items
  pub reach : AllReach text_start items

-- The file of the set's program, and the items of this very file: so the listing is that of the file.
pub record IsListed (stack : ℕ) (set : Files) (name : List ℕ) (built : Built) (items : List Item) : Type 0 where
  pub made : IsMade stack set name built
  pub items_are : items ≡ program_items made.file.code
  pub low : IsLow text_start items
  pub reach : AllReach text_start items
