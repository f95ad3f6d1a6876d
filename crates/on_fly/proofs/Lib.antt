pub mod ByColumns
pub mod Marking
pub mod Steps
