-- `CellLineText`: the gate that is written, as `model` has it.
pub mod CellLineText
pub use CellLineText.{Stands, delays_of, gate_in, name_in}
