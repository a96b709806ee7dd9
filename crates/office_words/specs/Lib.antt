pub mod Faults
pub mod Jobs
pub mod Line
pub mod Values
