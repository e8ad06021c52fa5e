-- `AssignmentBits`: laws of words of 64 bits. `GateWords`: a gate by its last pin.
-- `EvaluationSteps`: a word more, by those before it. `VariableWords`: the words of the graph are its values. `NetWords`: those of the netlist are its nets' values.
-- `OutputWords`: the words in which they differ. `ComparisonVerdict`: what is answered.
pub mod AssignmentBits
pub mod GateWords
pub mod EvaluationSteps
pub mod VariableWords
pub mod NetWords
pub mod OutputWords
pub mod ComparisonVerdict
