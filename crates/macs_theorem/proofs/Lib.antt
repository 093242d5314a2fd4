pub mod Settings
pub mod Matches
pub mod Commands
pub mod Frames
pub mod EachCall
pub mod Openings
pub mod Events
pub mod Nonces
pub mod Deeds
pub mod Runs
pub mod Kept
mod Rests
