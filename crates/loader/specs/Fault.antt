-- The code of each fault.
use Rattle.srcset.specs.declared.code.Code.{Code}
use Rattle.srcset.specs.declared.code.Code.TheVariants as code
use Rattle.loader.specs.declared.fault.LoadFault.{LoadFault}
use Rattle.loader.specs.declared.fault.LoadFault.TheVariants.{TooShort, NotElf32, NotExecutable, NotRiscV, BadProgramHeader, Overlap, TooMuch, Memory}

abbrev pub code_of : LoadFault → Code
code_of TooShort = code.ShortHeader
code_of NotElf32 = code.NotElf32
code_of NotExecutable = code.NotExecutable
code_of NotRiscV = code.NotRiscV
code_of BadProgramHeader = code.BadProgramHeader
code_of Overlap = code.SegmentsOverlap
code_of TooMuch = code.TooMuchMemory
code_of Memory = code.OutOfMemory
