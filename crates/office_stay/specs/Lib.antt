-- What contracts say of a run's end.
pub mod Conversions
