-- `CellTextLength`: the parts of a gate's line, and their lengths.
pub mod CellTextLength
