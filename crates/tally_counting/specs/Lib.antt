-- `CountedForms`: the test of each kind of expected line. `ReachedLines`: what a reader of lines answers. `GateCounters`: the gates of a netlist, counted. `NetlistCounts`: what is read of a netlist. `TallySums`: the tally, place by place.
pub mod CountedForms
pub mod ReachedLines
pub mod GateCounters
pub mod NetlistCounts
pub mod TallySums
unfoldable pub use CountedForms.{form_test}
pub use ReachedLines.{lines_of, place_in, read_in}
pub use GateCounters.{Counted, gate_or, no_gates, with_gate}
unfoldable pub use GateCounters.{gate_at}
pub use NetlistCounts.{Handed, NetlistRead, Whole}
unfoldable pub use NetlistCounts.{count_read}
pub use TallySums.{Blank, Wide, added_up_to, areas_at, counted_by, gates_at, occurs_at, added_at}
unfoldable pub use TallySums.{add_up_to}
