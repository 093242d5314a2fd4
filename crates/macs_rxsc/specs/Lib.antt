pub mod Receive
pub mod Value
pub mod Needs
pub mod Counting
pub mod Receiving
