pub mod Queries
pub mod Window
pub mod ConnectionFields
pub mod Briefs
