pub mod Fitting
pub mod Grown
pub mod Putting
pub mod Rewriting
pub mod Streamed
