-- `Preamble`: lines that are expected, and the first three of a netlist.
-- `DriverStore`: the numbers of a driver, and what is gathered of a text's lines.
pub mod Preamble
pub mod DriverStore
pub use Preamble.{Begun, Expected, Framed, Framing, Missed, Stands, Unbegun, goes_on, lines_at}
unfoldable pub use Preamble.{expected_at, expected_from, input_name, names_from}
pub use DriverStore.{Fitting, Gathered, Gates, Lined, Lines, Paired, Pairs, Partly, Step, Stepped, Taken, wire_gate}
unfoldable pub use DriverStore.{driver_words, gate_words, nets_after, progress_of}
