pub use Rattle.srcset.specs.Files
pub use Rattle.srcset.specs.Fault
pub use Rattle.srcset.specs.Codes
pub use Rattle.srcset.specs.NameTable
pub use Rattle.srcset.specs.Refusal
pub use Rattle.srcset.specs.Writing
pub use Rattle.phases.specs.Token
pub use Rattle.pp.specs.Preprocessed
pub use Rattle.pp.specs.Printed
pub use Rattle.pp.specs.Phase4
pub use Rattle.lexer.specs.CTokens
pub use Rattle.lexer.specs.Numbering
pub use Rattle.tree.specs.Tree
pub use Rattle.tree.specs.Counts
pub use Rattle.parser.specs.Units
pub use Rattle.typing_spec.specs.Program
pub use Rattle.typing_spec.specs.Verdict
pub use Rattle.typing_spec.specs.Units as TypedUnits
pub use Rattle.typing.specs.Told
pub use Rattle.csem.specs.Meaning
pub use Rattle.cabs.specs.Interpreting
pub use Rattle.rv32.specs.Step
pub use Rattle.loader.specs.File
pub use Rattle.memory_map.specs.MemoryMap
pub use Rattle.io_ports.specs.Port
pub use Rattle.sim.specs.Runs
pub use Rattle.sim.specs.Meets
pub use Rattle.cc_backend.specs.Runs as RunsOfFiles
pub use Rattle.cc_backend.specs.Made as MadeFiles
pub mod Compiled
pub mod Refused
pub mod Made
pub mod Transfer
pub mod Sources
pub mod Reported
pub mod Performed
pub mod inside
