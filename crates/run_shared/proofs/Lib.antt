pub mod Ran
pub mod Ready
pub mod Written
