pub mod Leftover
pub mod Making
