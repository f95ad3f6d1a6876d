pub use Rattle.root_opening.proofs.PartSetItems
pub use Rattle.root_commits.proofs.CrashTurns as RootCommitsCrashTurns
pub use Rattle.root_commits.proofs.StartedAgain as RootCommitsStartedAgain
pub use Rattle.root_opening.proofs.ImagesShown as RootOpeningImagesShown
pub use Rattle.root_opening.proofs.OneDamage as RootOpeningOneDamage
pub use Rattle.root_opening.proofs.Settled as RootOpeningSettled
pub use Rattle.root_opening.proofs.Standing as RootOpeningStanding
pub use Rattle.root_opening.proofs.RootStoreCrashMarks
pub use Rattle.root_opening.proofs.RootStoreCrashOrder
