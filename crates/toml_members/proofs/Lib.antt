pub mod Each
pub mod Options
pub mod Places
