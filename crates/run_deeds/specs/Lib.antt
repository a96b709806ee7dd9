pub mod Boards
pub mod Deeds
pub mod Doings
