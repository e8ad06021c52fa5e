-- `FieldDigits`: fields by their bytes. `FieldLaws`: a line's fields, byte by byte and field by field. `NetlistLineForms`: the form of a line by steps over its fields. `GateLineForms`: the cell of a gate line.
pub mod FieldDigits
pub mod FieldLaws
pub mod NetlistLineForms
pub mod GateLineForms
pub use GateLineForms.{cells_at, cells_count}
