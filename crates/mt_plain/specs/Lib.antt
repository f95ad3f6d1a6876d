pub mod Changes
pub mod Lefts
pub mod Once
pub mod Order
pub mod Outcomes
pub mod Plain
pub mod Portions
