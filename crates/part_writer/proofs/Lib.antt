pub mod ColumnFiles
pub mod Contents
pub mod EndedRows
pub mod FileLaws
pub mod Filling
pub mod Folders
pub mod Granules
pub mod GrownIndexes
pub mod KeptRows
pub mod Growth
pub mod OpenedFiles
pub mod PendingColumns
pub mod RowsOut
pub use Rattle.digest_file.proofs.ByteNumbersNumbers
pub use Rattle.primary_marks.proofs.ColumnFileFronts
pub use Rattle.primary_marks.proofs.ColumnFileMarked
pub use Rattle.primary_marks.proofs.ColumnFileNumbers
pub use Rattle.primary_marks.proofs.ColumnFileOneWay
pub use Rattle.primary_marks.proofs.ColumnFileReading
pub use Rattle.primary_marks.proofs.ColumnFileTested
pub use Rattle.primary_marks.proofs.ColumnFileWanted
pub use Rattle.digest_file.proofs.Manifests as DigestFileManifests
pub use Rattle.digest_file.proofs.Pieces as DigestFilePieces
pub use Rattle.primary_marks.proofs.ColumnStarts as PrimaryMarksColumnStarts
pub use Rattle.primary_marks.proofs.GranuleBoxes as PrimaryMarksGranuleBoxes
pub use Rattle.primary_marks.proofs.KeyRows as PrimaryMarksKeyRows
pub use Rattle.primary_marks.proofs.KeyRowsOf as PrimaryMarksKeyRowsOf
pub use Rattle.primary_marks.proofs.KeysOneWay as PrimaryMarksKeysOneWay
pub use Rattle.primary_marks.proofs.KeysRead as PrimaryMarksKeysRead
pub use Rattle.primary_marks.proofs.MarkedRows as PrimaryMarksMarkedRows
pub use Rattle.primary_marks.proofs.SkippedGranules as PrimaryMarksSkippedGranules
pub use Rattle.primary_marks.proofs.Starts as PrimaryMarksStarts
pub use Rattle.primary_marks.proofs.Wanted as PrimaryMarksWanted
pub use Rattle.skip_index.proofs.Built as SkipIndexBuilt
pub use Rattle.skip_index.proofs.OneWay as SkipIndexOneWay
pub use Rattle.skip_index.proofs.Skipped as SkipIndexSkipped
pub use Rattle.skip_index.proofs.Written as SkipIndexWritten
