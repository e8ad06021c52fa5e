-- `Assignments`: words of 64 assignments, and those of inputs, literals and gates.
-- `Evaluation`: the words of variables and drivers in a block of assignments, each from those before it. `Comparable`: a netlist that can be compared with its
-- graph, and where its outputs are wrong.
-- `CompareContracts`: what the functions that compare outputs ask, and what they answer.
pub mod Assignments
pub mod Evaluation
pub mod Comparable
pub mod CompareContracts
unfoldable pub use Assignments.{and_word, differences, gate_word, input_word, literal_word, selected, word_of}
pub use Evaluation.{DriversStep, Readable, Slots, SlotsStep, pins_of, table_of}
unfoldable pub use Evaluation.{and_at, driver_word, found_by, pin_word, ref_word, slot_word}
pub use Comparable.{Wrong}
unfoldable pub use Comparable.{net_at, wanted_at, wrong_word}
pub use CompareContracts.{ComparedAs, DriversFilled, DriversReadable, Evaluable, Evaluated, HasNetlist, OutputsCompared, OutputsReadable}
