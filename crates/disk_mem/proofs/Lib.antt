pub mod FirstFile
pub mod Names
pub mod NotedAll
pub mod PieceReads
