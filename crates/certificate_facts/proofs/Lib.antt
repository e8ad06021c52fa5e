-- `StoredRows`: reading and writing a row.
pub mod StoredRows
