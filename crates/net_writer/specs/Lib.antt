-- `NetlistText`: the gates, names and figures as the lent words have them. `MappedWords`: what the words hold when a netlist is written.
-- `WriterContracts`: what the functions that write the netlist ask, and what they leave in the bytes.
pub mod NetlistText
pub mod MappedWords
pub mod WriterContracts
pub use NetlistText.{Bounded, GatesWritable, Grown, MatchReady, Named, OneMoreFits, Small, SourceReady, figures_length, preamble_length, line_length, line_of}
pub use NetlistText.{net_words, no_tally, pin_word, text_length, wire_length}
unfoldable pub use NetlistText.{all_gates, figures_in, figures_text, preamble_text, gate_at, gate_by, gate_from, gates_from, input_names_from, input_net}
unfoldable pub use NetlistText.{inverted_gates, is_gate_at, latest_from, matched_gates, measured_in, output_names_from, pin_part, spaced, tallied, text_in}
unfoldable pub use NetlistText.{wire_lines_from}
pub use MappedWords.{gates_for, measured_for, text_for}
pub use WriterContracts.{NetlistWritten, Writable, gate_lines_of}
