pub mod Marks
pub mod Sound
pub use Rattle.part_writer.specs.byte_numbers
pub use Rattle.part_writer.specs.column_file
pub use Rattle.part_writer.specs.digest_file
pub use Rattle.part_writer.specs as part_writer
pub use Rattle.part_writer.specs.predicate
pub use Rattle.part_writer.specs.primary_marks
pub use Rattle.part_writer.specs.skip_index
