mod KeysBeside
pub mod Reading
mod KeyDigits
mod FileText
mod Sound
mod Stages
mod LinkWords
mod Keyed
mod Blanks
mod Values
mod Lengths
pub mod InTurns
pub mod Written
pub mod Lined
