pub mod Between
pub mod ColumnLaws
pub mod ColumnStarts
pub mod GranuleBoxes
pub mod KeyReading
pub mod KeyRows
pub mod KeyRowsOf
pub mod KeysOneWay
pub mod KeysRead
pub mod MarkedRows
pub mod Rising
pub mod SkippedGranules
pub mod SpanMisses
pub mod Starts
pub mod Wanted
pub use Rattle.column_file.proofs.Fronts as ColumnFileFronts
pub use Rattle.column_file.proofs.Marked as ColumnFileMarked
pub use Rattle.column_file.proofs.Numbers as ColumnFileNumbers
pub use Rattle.column_file.proofs.OneWay as ColumnFileOneWay
pub use Rattle.column_file.proofs.Reading as ColumnFileReading
pub use Rattle.column_file.proofs.Tested as ColumnFileTested
pub use Rattle.column_file.proofs.Wanted as ColumnFileWanted
