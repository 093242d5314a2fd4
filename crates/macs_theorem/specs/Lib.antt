pub mod Events
pub mod Shown
pub mod Observer
pub mod Page
pub mod Older
pub mod Files
pub mod Programs
pub mod Examples
