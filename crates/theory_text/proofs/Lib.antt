pub mod ReadSteps
pub mod PlainLines
pub mod LineLaws
pub mod ReadFaults
pub mod ReadBack
pub mod ReadFigures
pub mod ReadTimings
pub mod NetlistNames
pub mod ReadLibrary
pub mod GraphItems
pub mod LineGroups
pub mod Binary
pub mod ReadGraph
pub mod ExpectedLinesBack
pub mod LineSequence
pub mod AsciiForms
pub mod ReadTexts
pub mod CellLines
pub mod ArrivalFaults
pub mod FormerLines
pub mod LineEnds
pub mod WrittenText
pub mod DesignOutcomes
pub use ReadSteps.{fault_never, from_out, holds-once, next_out, only_out, only_yes, then_out, unless_out}
pub use PlainLines.{Clear, Clears, Free, above, bytes-free, clears_map, decimal-free, free_append, free-reverse, label-free, name_clear}
pub use PlainLines.{net-free, out_clear, spaced-free}
pub use LineLaws.{fields-last, fields-word, held_back, held-length, line_first, line_of_bytes, lines_step}
unfoldable pub use LineLaws.{held_with}
pub use ReadFaults.{arrivals_faults, graph_faults, header_faults, in_fault, in_from, in_holds, in_next, in_unless, library_faults, lines-inside}
pub use ReadFaults.{listed_faults}
pub use ReadBack.{at_first, at-later, gate-line, input_names, no_gate-end, output_names, parts-line, read_back, wire-line}
unfoldable pub use ReadBack.{blif_of, body, body_of, line_of, names_of, wire_body, wires_from}
pub use ReadFigures.{figure-back, figures-back}
pub use ReadTimings.{timings-back, timings-none}
unfoldable pub use ReadTimings.{timings_from}
pub use NetlistNames.{Bound, cell_form, decimal-value, gate-bound, label-once, library-cell, library-rest, named-cell, net-once}
pub use ReadLibrary.{library-few, library-fits, library-ranged, library-written}
pub use Binary.{binary-parts, binary-used, less_out}
pub use ReadGraph.{Counted, graph-accepted, graph-counted, graph-fits, graph-known, header-fits, once-distinct}
pub use ExpectedLinesBack.{fields-numbers, number-back, numbers-back}
pub use LineSequence.{binary-falls, binary_faults}
pub use AsciiForms.{ascii-means, means-outcome}
pub use ReadTexts.{Texts, design-accepted, design-graph, design-library, design-ranged, design-written, texts-read, timed-fits}
pub use CellLines.{field_count, lines-cells}
pub use ArrivalFaults.{InputArrivalRead, input-arrival-read, reads-untimed, texts-listed, untimed-zero}
pub use FormerLines.{demand_former, none-lower}
pub use LineEnds.{demand_ends, no_lines_lem}
pub use DesignOutcomes.{FromChoice, FromDesign, outcome-is, outputs_present, printed-choice, refused_never}
