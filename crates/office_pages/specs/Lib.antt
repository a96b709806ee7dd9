pub mod Escapes
pub mod Moments
pub mod Pieces
pub mod PointRows
pub mod Samples
