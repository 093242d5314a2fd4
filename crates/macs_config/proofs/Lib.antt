pub mod OffsetChoice
pub mod StoredChannels
pub mod Channels
pub mod Spent
pub mod Tables
pub mod Keyed
pub mod Lent
pub mod Sides
pub mod Judging
pub mod Kept
pub mod Replayed
pub mod Listed
pub mod Refused
pub mod Editions
mod SnapshotWords
