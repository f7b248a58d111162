pub mod Views
pub mod Reading
pub mod Readings
pub mod Faults
pub mod Puts
