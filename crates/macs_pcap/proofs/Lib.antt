pub mod Fronts
pub mod Taken
pub mod Sent
pub mod WrittenRecord
pub mod WrittenHeader
