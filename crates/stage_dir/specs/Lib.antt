pub mod Crashes
pub mod Stages
