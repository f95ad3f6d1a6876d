pub mod Inserting
pub mod Partitions
pub mod Placing
