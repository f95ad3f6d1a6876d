pub mod Entries
pub mod FirstFaults
pub mod Frames
pub mod Manifests
pub mod Pieces
pub use Rattle.byte_numbers.proofs.Numbers as ByteNumbersNumbers
