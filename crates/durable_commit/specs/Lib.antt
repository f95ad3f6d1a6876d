pub mod Commits
pub mod Publications
pub use Rattle.stage_dir.specs as stage_dir
