-- `StoredWords`: words stored into a list from a place on. `Layout`: what lies where in the lent words. `CutRecord`: a node, a cut, a cut list and a cut's function in words.
-- `Phases`: a phase in words, and which phases are needed. `WordAddresses`: every record of the layout, with its address. `RepresentedGraph`: what the words hold of a graph.
pub mod StoredWords
pub mod Layout
pub mod CutRecord
pub mod Phases
pub mod WordAddresses
pub mod RepresentedGraph
pub use StoredWords.{zeros}
unfoldable pub use StoredWords.{put_at}
pub use Layout.{HasCapacity, HasCapacityFor, and_kind, block, constant_kind, count_addr, count_at, counts_from, counts_to, cut_addr, function_addr, input_kind}
pub use Layout.{kind_addr, kind_at, input_arrival_addr, input_arrival_at, left_addr, left_at, lists_from, lists_to, min_arrival_addr, min_arrival_at, min_arrival_words, needed_addr, needed_at}
pub use Layout.{negative_addr, output_addr, output_at, position_addr, position_at, ordered_count, positive_addr, right_addr, right_at, slot_addr, slot_at}
pub use Layout.{undefined_kind}
pub use CutRecord.{AllGood, Good, Leaves, Sound, leaves_at, leaves_of, node_of, padded}
unfoldable pub use CutRecord.{cut_by, cut_in, cut_of, cut_words, cuts_at, function_of, leaves_from, node_at, put_cut, put_cuts, put_from, put_functions}
unfoldable pub use CutRecord.{put_list, put_node}
pub use Phases.{MatchFits, PhaseFits, SourceFits, arrival_words, flag_of, kind_source, match_of, match_word, negative_at, phase_at, phases_at}
pub use Phases.{positive_at, source_of, source_words, with_flag}
unfoldable pub use Phases.{is_needed, makes_gate, phase_in, phase_words, put_needed}
pub use WordAddresses.{Column, Listed, address_of, columns, counts, cut_column, edge, firsts, fourths, functions, kinds, lates, lefts, needs}
pub use WordAddresses.{negatives, order, outputs, places, positives, rank, rights, seconds, size_of, sizes, thirds}
pub use RepresentedGraph.{RepresentsCuts, RepresentsGraph, RepresentsNeeded, RepresentsOrder, RepresentsPhases}
