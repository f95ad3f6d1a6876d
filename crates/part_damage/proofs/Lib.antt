pub mod Deciding
pub mod Decisions
pub mod IndexFiles
pub mod SpelledRows
pub use Rattle.part_writer.proofs.ByteNumbersNumbers
pub use Rattle.part_writer.proofs.ColumnFileMarked
pub use Rattle.part_writer.proofs.ColumnFileNumbers
pub use Rattle.part_writer.proofs.ColumnFileOneWay
pub use Rattle.part_writer.proofs.ColumnFileReading
pub use Rattle.part_writer.proofs.ColumnFileWanted
pub use Rattle.part_writer.proofs.DigestFileManifests
pub use Rattle.part_writer.proofs.DigestFilePieces
pub use Rattle.part_writer.proofs.Contents as PartWriterContents
pub use Rattle.part_writer.proofs.Folders as PartWriterFolders
pub use Rattle.part_writer.proofs.PrimaryMarksColumnStarts
pub use Rattle.part_writer.proofs.PrimaryMarksGranuleBoxes
pub use Rattle.part_writer.proofs.PrimaryMarksKeyRows
pub use Rattle.part_writer.proofs.PrimaryMarksKeyRowsOf
pub use Rattle.part_writer.proofs.PrimaryMarksKeysOneWay
pub use Rattle.part_writer.proofs.PrimaryMarksKeysRead
pub use Rattle.part_writer.proofs.PrimaryMarksMarkedRows
pub use Rattle.part_writer.proofs.PrimaryMarksSkippedGranules
pub use Rattle.part_writer.proofs.PrimaryMarksStarts
pub use Rattle.part_writer.proofs.PrimaryMarksWanted
pub use Rattle.part_writer.proofs.SkipIndexBuilt
pub use Rattle.part_writer.proofs.SkipIndexSkipped
