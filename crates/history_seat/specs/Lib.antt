pub mod Rule
pub mod Steps
pub mod Turns
pub mod Views
