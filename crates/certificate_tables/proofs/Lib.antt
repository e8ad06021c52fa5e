-- `TableRows`: tables of 16 rows in wider words.
pub mod TableRows
