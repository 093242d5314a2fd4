pub mod Adding
pub mod Shown
