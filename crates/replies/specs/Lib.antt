pub mod Causes
pub mod Foreseen
pub mod Lines
pub mod Tallies
pub use Rattle.mt_model.specs as mt_model
pub use Rattle.mt_model.specs.predicate
pub use Rattle.run_streams.specs as run_streams
