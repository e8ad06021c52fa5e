-- `CellValidation`: laws of what a cell line must not say. `CellLineForms`: the form of a cell line is the crate model's. `CellLineSteps`: a step of the reader is a line of the crate model's.
-- `NamesLine`: the names line.
pub mod CellValidation
pub mod CellLineForms
pub mod CellLineSteps
pub mod NamesLine
