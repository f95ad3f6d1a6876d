pub mod Asked
pub mod Choices
pub mod Folded
pub mod Founds
pub mod Keys
pub mod Matches
pub mod Picks
pub mod Scans
pub use Rattle.row_merge.specs.part_history
pub use Rattle.row_merge.specs as row_merge
pub use Rattle.row_merge.specs.rule_law
pub use Rattle.select_plan.specs as select_plan
