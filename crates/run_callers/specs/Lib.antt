pub mod Callers
pub mod Pages
pub mod Sessions
