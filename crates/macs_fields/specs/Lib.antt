pub mod First
pub mod Fields
