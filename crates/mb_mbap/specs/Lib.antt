-- What clauses say of frames, of streams, and of counted readers and writers.
pub mod Stream
pub mod Steps
pub mod Whole
pub mod Feeding
pub mod Places
pub mod Counted
pub use Rattle.mb_pdu.specs.Packing
