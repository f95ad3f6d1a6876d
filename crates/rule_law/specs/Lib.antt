pub mod Changes
pub mod TableRows
pub use Rattle.mt_model.specs as mt_model
