pub mod Deeds
pub mod Passing
