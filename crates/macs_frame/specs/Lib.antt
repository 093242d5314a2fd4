pub mod Tag
pub mod Traffic
pub mod Opening
pub mod Protection
