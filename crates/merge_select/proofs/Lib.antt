pub mod Places
pub mod Shelves
pub mod Tables
pub mod Wholes
