-- What contracts say of commands.
pub mod Faults
pub mod Conversions
