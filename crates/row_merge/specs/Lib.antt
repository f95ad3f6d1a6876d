pub mod Copies
pub mod Course
pub mod Fates
pub mod Heads
pub mod Held
pub mod Merged
pub mod MergedParts
pub mod Merging
pub mod Passing
pub mod Sinks
pub mod Streams
pub mod Stretches
pub mod TestTables
pub use Rattle.part_reader.specs.column_file
pub use Rattle.part_history.specs.mt_model
pub use Rattle.part_history.specs as part_history
pub use Rattle.part_reader.specs as part_reader
pub use Rattle.part_set.specs as part_set
pub use Rattle.part_reader.specs.part_writer
pub use Rattle.part_reader.specs.primary_marks
pub use Rattle.rule_replacing.specs.rule_law
