pub mod ClearEnd
pub mod Readings
pub mod Protection
pub mod SealedInPlace
pub mod WrittenTag
pub mod OpenFaults
pub mod Decisions
