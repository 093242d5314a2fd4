pub mod Header
pub mod Records
pub mod Captures
pub mod Faults
pub mod States
pub mod Reading
pub mod Writing
pub mod Value
