mod Added
mod Parsing
