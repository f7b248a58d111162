pub mod MemoryMap
