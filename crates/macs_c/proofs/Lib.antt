pub mod Ranges
pub mod Refused
pub mod ReadTags
mod Steps
mod Held
mod Handles
mod EmptyStructs
mod ImageDisks
mod ReportedDisks
mod Opened
mod Stepped
mod SectorLists
mod Filled
mod FormatPowerLoss
mod Exported
mod GivenFrames
mod ShownNumbers
mod ExportedFrames
mod Reportable
mod NewDisks
