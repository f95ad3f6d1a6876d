pub mod Blocks
pub mod Files
pub mod Faults
pub mod Choosing
