pub mod Growing
pub mod PartFiles
pub use Rattle.digest_file.specs.byte_numbers
pub use Rattle.primary_marks.specs.column_file
pub use Rattle.digest_file.specs as digest_file
pub use Rattle.primary_marks.specs.predicate
pub use Rattle.primary_marks.specs as primary_marks
pub use Rattle.skip_index.specs as skip_index
pub use Rattle.stage_dir.specs as stage_dir
