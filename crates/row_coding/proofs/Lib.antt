pub mod PiecesWritten
pub mod PiecesRead
pub mod Inverses
pub mod MovesRead
pub mod OneCoding
pub mod RangesRead
pub mod ExpansionsFit
pub mod ScanExpansionsFit
