pub mod Fitting
pub mod Working
mod Alone
mod Carrying
pub mod Framing
pub mod Turns
pub mod Following
pub mod Rooms
pub mod Seen
pub mod Opened
pub mod Commanding
pub mod Raises
pub mod RefillCosts
pub mod Begun
mod Lifted
pub mod Ended
pub mod RefillCall
pub mod Stepped
pub mod Taken
mod KeptBehind
mod TakenUp
mod Parts
mod Queued
pub mod Work
pub mod Changes
mod Idled
pub mod Alike
mod WorkThroughCalls
mod Between
mod AsBegun
mod OneCommand
pub mod Rested
mod RestCall
mod MadeSteps
pub mod OpenedDisks
pub mod OtherDisk
