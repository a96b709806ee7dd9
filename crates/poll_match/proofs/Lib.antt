pub mod Numbers
pub mod Windows
pub mod Valid
pub mod Connections
pub mod Places
pub mod Least
pub mod Greatest
pub mod Briefs
