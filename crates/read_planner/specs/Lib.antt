pub mod Allowed
pub mod Chosen
pub mod Place
pub mod Read
pub mod Walk
