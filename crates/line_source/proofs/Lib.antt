pub mod Skipping
pub mod Piecewise
