pub mod Again
mod Lived
pub mod Behind
pub mod Once
pub mod AllRecords
pub mod Whole
pub mod LastCalls
pub mod Flowing
mod ByDatagrams
pub mod Queueing
pub mod Matching
mod Attended
pub mod LeftAlone
pub mod AttendedFlows
mod Drawn
pub mod Judged
