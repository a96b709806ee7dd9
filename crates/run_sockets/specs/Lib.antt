pub mod PlaceFields
pub mod Ports
pub mod Systems
pub mod Tables
pub mod Tokens
