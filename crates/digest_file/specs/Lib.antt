pub mod Faults
pub mod Frames
pub mod Spellings
pub use Rattle.byte_numbers.specs as byte_numbers
