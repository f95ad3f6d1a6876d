pub mod Columns
pub mod Faults
pub mod Fields
pub mod Numbers
pub mod Printing
pub mod Texts
