pub mod Choosing
pub mod Columns
pub mod Keys
pub mod KeyFaults
pub mod Places
pub mod Rising
pub mod Spans
pub use Rattle.column_file.specs as column_file
pub use Rattle.predicate.specs as predicate
