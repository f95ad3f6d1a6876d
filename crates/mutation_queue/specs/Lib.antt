pub mod Listed
pub mod Queue
pub mod Rewrites
pub mod Scopes
pub use Rattle.part_set.specs as part_set
