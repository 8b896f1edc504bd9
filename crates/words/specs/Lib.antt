pub mod Faults
pub mod Views
pub mod Sets
pub mod Outcomes
pub mod Stepping
pub mod Reading
pub mod Promises
pub mod Theorems
