pub mod Images
pub mod Moments
pub mod Calls
mod BlownWrites
mod MissedCalls
pub mod ReadBack
mod Kept
mod ListedCalls
mod Walks
pub mod FileWrites
pub mod FileReads
mod FileCalls
pub mod FileSectors
mod FileOpenings
pub mod FoundAgain
pub mod FailedCalls
pub mod InterruptedCalls
pub mod DiskCopies
