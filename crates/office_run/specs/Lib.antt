pub mod Beginnings
pub mod Parts
pub mod Passes
