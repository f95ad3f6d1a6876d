pub mod Dashes
pub mod Parsing
pub mod Reading
pub mod Walks
