pub mod Beside
pub mod Lying
pub mod Narrowing
pub mod Sought
pub mod Truths
