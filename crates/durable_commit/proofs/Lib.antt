pub mod SameLists
pub mod Settling
pub mod WhyRefused
pub use Rattle.stage_dir.proofs.Images as StageDirImages
pub use Rattle.stage_dir.proofs.Lookups as StageDirLookups
