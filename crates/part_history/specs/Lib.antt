pub mod Entered
pub mod Merges
pub mod Parts
pub use Rattle.rule_law.specs.mt_model
pub use Rattle.part_name.specs as part_name
pub use Rattle.rule_law.specs.mt_model.predicate
