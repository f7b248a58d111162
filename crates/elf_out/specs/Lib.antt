pub use Rattle.srcset.specs.Fault
pub use Rattle.rv32.specs.Space
pub use Rattle.loader.specs.File
pub use Rattle.memory_map.specs.MemoryMap
pub mod Layout
pub mod Written
pub mod Program
pub mod Laws
