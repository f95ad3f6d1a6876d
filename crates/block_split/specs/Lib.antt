pub mod Groups
pub mod Split
