pub mod Ranges
pub mod Sectors
pub mod Layout
pub mod Decoding
pub mod Commands
pub mod Gates
pub mod Heads
pub mod Settings
