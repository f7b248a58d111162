pub use Rattle.lower_wf.specs.Asked
pub use Rattle.tac_code.specs.Lowered
pub use Rattle.frames_regalloc.specs.Renumbered
pub use Rattle.frames_hoist.specs.Optimised
pub use Rattle.frames.specs.Translated
pub use Rattle.frames.specs.Flattened
pub use Rattle.memory_map.specs.MemoryMap
pub use Rattle.elf_out.specs.Program
pub use Rattle.select_correct.specs.Runs as Simulated
pub use Rattle.select_correct.specs.Reaching
pub use Rattle.select_correct.specs.Convention as Conventional
pub mod Runs
pub mod Better
pub mod Made
pub mod Sizes
pub mod FlatImages
pub mod Convention
pub mod Words
pub mod Forms
pub mod Simulation
pub mod Chain
pub mod inside
