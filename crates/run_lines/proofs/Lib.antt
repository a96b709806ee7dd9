pub mod Lines
mod Wires
