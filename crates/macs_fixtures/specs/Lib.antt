pub mod Blocks
pub mod MemFiles
pub mod Evidence
