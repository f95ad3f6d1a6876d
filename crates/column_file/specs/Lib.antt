pub mod Faults
pub mod Granules
pub mod Marks
pub mod Picks
pub mod Spellings
pub mod Tests
pub use Rattle.byte_numbers.specs as byte_numbers
