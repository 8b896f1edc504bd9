pub mod Faults
pub mod WordJobs
pub mod Answering
pub mod Asking
