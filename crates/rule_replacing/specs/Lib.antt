pub mod Replaced
pub use Rattle.rule_law.specs as rule_law
