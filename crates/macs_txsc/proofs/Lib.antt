pub mod Faults
pub mod Needs
