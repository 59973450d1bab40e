-- A card's records are rows of fields, with spaces after them.
pub use Rattle.row.specs.Records.{row_of}
pub use Rattle.row.specs.Rows.{stands}
