pub mod Tables
pub mod Device
pub mod Schedule
pub mod Queue
pub mod Image
pub use Rattle.toml_members.specs.Members
