-- `GateRecords`: what the functions that validate a gate answer. `CellTextPasses`: what the two passes over the groups of a text find.
pub mod GateRecords
pub mod CellTextPasses
pub use GateRecords.{Few, GateIs, GateStands, InLine, gate_option, validated_read}
unfoldable pub use GateRecords.{sized_read}
unfoldable pub use CellTextPasses.{found, line_of, lines_for, measured, text_for}
