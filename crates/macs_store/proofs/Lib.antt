pub mod Replaying
pub mod Tables
pub mod Adjusting
pub mod Formats
pub mod Keeping
pub mod Compacting
pub mod Migrating
mod Started
mod Turns
pub mod StartedCommands
pub mod EachStep
pub mod ToTheEnd
pub mod OneStanding
pub mod LargerEditions
pub mod Filling
pub mod Ascending
pub mod Making
mod FreshKeys
pub mod Sections
pub mod Snapshots
mod SnapshotLength
mod Passing
mod ReadFingerprints
pub mod Rested
mod MadeSteps
