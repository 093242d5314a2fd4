pub mod Octets
pub mod Shuffles
pub mod AcrossLanes
pub mod Turned
pub mod BitPlanes
pub mod NumberedBlocks
