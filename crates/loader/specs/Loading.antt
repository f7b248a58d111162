-- A contract's view of a loaded program.
use Rattle.std.specs.Prelude.{◌≡◌, ◌⊎◌, ℕ, List, Err, IsOk}
use Rattle.rv32.specs.Space.{space_of}
use Rattle.loader.specs.File.{Image, file_image}
use Rattle.loader.specs.declared.fault.LoadFault.{LoadFault}
use Rattle.loader.specs.declared.fault.LoadFault.TheVariants.{Memory}
use Rattle.loader.specs.declared.program.Loaded.{Loaded}

-- its image
abbrev pub loaded_image : Loaded → Image
loaded_image l = record { entry = l.entry; space = space_of l.memory.segments.items }

-- the first fault of the file, or out of memory for a file that has an image
abbrev pub FailsToLoad : List ℕ → LoadFault → Type 0
FailsToLoad file fault = ((fault ≡ Memory) × IsOk (file_image file)) ⊎ (file_image file ≡ Err fault)
