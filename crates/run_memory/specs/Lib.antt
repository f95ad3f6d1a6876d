pub mod Events
pub mod Growing
pub mod Putting
