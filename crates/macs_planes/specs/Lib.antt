pub mod Across
pub mod Counters
