pub mod Sizes
pub mod Stages
pub mod States
