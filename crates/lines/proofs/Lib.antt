pub mod Cutting
pub mod Determined
pub mod Keyed
pub mod NoJobs
pub mod Placing
pub mod SheetLines
