pub mod Words
pub mod Commands
pub mod Devices
pub mod Printing
pub mod Scripts
pub mod Ends
pub mod Playing
