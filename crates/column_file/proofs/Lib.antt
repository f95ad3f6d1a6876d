pub mod Ahead
pub mod Fronts
pub mod Marked
pub mod Numbers
pub mod OneWay
pub mod Reading
pub mod Tested
pub mod TextParts
pub mod Wanted
pub mod Writing
pub use Rattle.byte_numbers.proofs.Groups as ByteNumbersGroups
