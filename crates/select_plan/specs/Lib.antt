pub mod Plans
pub use Rattle.part_reader.specs.primary_marks
pub use Rattle.part_reader.specs.skip_index
