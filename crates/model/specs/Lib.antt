pub mod Base
pub mod Limits
pub mod Text
pub mod ReadResult
pub mod Table
pub mod Cells
pub mod Graph
pub mod Cuts
pub mod Matching
pub mod Choice
pub mod Cover
pub mod Pairs
pub mod PairDemands
pub mod Netlist
pub mod Timing
pub mod Blif
pub mod LibraryText
pub mod FormerLibrary
pub mod GraphText
pub mod ArrivalsText
pub mod Mapper
pub mod Channels
pub mod Demands
pub mod OrderDemands
pub mod ShuffleDemands
pub mod NetlistLines
pub mod Tally
pub mod GenlibWords
pub mod GenlibFormula
pub mod Genlib
pub mod GenlibDemands
pub mod Check
pub mod CheckDemands
unfoldable pub use Base.{all, and_then, any, below, bit, each, elem, find, flip, from, insert, keep, lowest, one, only, or_else, put, run}
unfoldable pub use Base.{same, smaller, union}
pub use Limits.{cut_limit}
unfoldable pub use Limits.{need}
pub use Text.{Line, ended, ended_by_ten, next_of}
unfoldable pub use Text.{as_digits, between, closing, decimal, digits, fields, hex_digit, hex_from, hex_table, is_letter, is_name, is_name_byte}
unfoldable pub use Text.{lines_from, number, numbers, onto, parts, shown, split, text}
pub use ReadResult.{Read, Verdict, Written, fault, holds, refused_with}
unfoldable pub use ReadResult.{first_of, from?, next, refused_at, refusal_at, refusal_of, unless, verdict_of, verdict_refusal}
unfoldable pub use Table.{orders, pin_row, row_map, row_of, value}
pub use Cells.{blank, no_cell}
unfoldable pub use Cells.{cell_at, cells_of, is_inverter, library_answer, library_of, name_of}
pub use Graph.{And, GraphValues, Node, and_vars, both, constant, input, undefined}
unfoldable pub use Graph.{and_on, find_and, literal, literal_value, negated, node, node_value, opposite, order_from, topological_order, ready, unordered}
unfoldable pub use Graph.{value_of, values, var_of}
unfoldable pub use Cuts.{after, compare_cuts, compare_leaves, over_limit, cut_at, cut_lists_of, cut_table, cuts_of, leaf_bit, node_cuts, tabulate, unions}
unfoldable pub use Cuts.{walk}
unfoldable pub use Matching.{fed_nets, fits, match_nets, phase_table, places_fit, rows_agree}
pub use Choice.{Phases}
unfoldable pub use Choice.{absent, cell_matches, cell_of, choices, choose, chosen, cut_matches, cut_phases, uninverted, earlier, feeds}
unfoldable pub use Choice.{inverter_phases, joined, latest, match_phase, match_phases, no_phase, no_phases, phase_of, preference, rank}
pub use Cover.{Allowed, CoverArrivals, Feeds, IsInverting, IsMatch, IsInputSource, Needed, directly, fed, output, through}
unfoldable pub use Cover.{arrival_by}
pub use Pairs.{Pair, no_pair}
unfoldable pub use Pairs.{cell_of_pair, cells_for, join_delays, joins, pair_at, pair_delays, pair_of, pair_pins, pair_table, pair_value, pairs_of}
unfoldable pub use Pairs.{splice, with_pairs}
pub use PairDemands.{Before, Joined, PairsKept, Rising}
pub use Netlist.{Gate, Net, Outcome, mapped, of_pair, of_phase, refused}
unfoldable pub use Netlist.{backwards, cover_verdict, cuts_verdict, figures_of, gate_line, gates, gates_by, is_inverted, is_input_source, label, largest}
unfoldable pub use Netlist.{map_chosen, map_cut, map_graph, map_ordered, names_line, needed, net_name, netlist_text, number_of, one_gate, out_name}
unfoldable pub use Netlist.{pin_words, order_verdict, printed, spread, sum, two_gates, uncovered, wire_line, wire_lines}
pub use Timing.{Times, no_times}
unfoldable pub use Timing.{followed, min_arrival_of, own_time, retimed, retimes, time_of, times_at, timing_lines, inverter_time}
pub use Blif.{Binding, Body, Delays, GateLine, NetArrivals, NetTimes, NetValues, TimingLine, Wire, output_name}
unfoldable pub use Blif.{after_word, behind_end, behind_figures, binding, bindings_of, body_from, digits_from, drives, fed_by, figure, longer}
unfoldable pub use Blif.{named, net_at, pin_names, read_blif, read_body, read_figure_words, read_figures, read_gate, read_lines, read_timing_lines}
unfoldable pub use Blif.{read_timing_words, read_timings, read_wire, read_wires, wire_of, words_after}
unfoldable pub use LibraryText.{cell_of_fields, cell_of_line, is_clean, is_longer, is_ranged, is_shorter, name_bytes, no_lower, ranged_lines}
unfoldable pub use LibraryText.{read_cells, read_library, read_library_lines}
unfoldable pub use FormerLibrary.{former_cells, former_clean, former_fields, former_library, former_line, former_lines}
pub use GraphText.{Item, Kind, Passed, an_and, an_input, an_output, closed}
unfoldable pub use GraphText.{ascii_text, behind_lines, check_uses, defined_by, defines, difference, expected, graph_of, header_answer, header_numbers}
unfoldable pub use GraphText.{header_of, header_of_numbers, header_values, how_many, in_limits, in_sequence, input_items, is_kind}
unfoldable pub use GraphText.{item_literals, less_by, numbers_line, read_ands, read_binary, read_expected, read_graph, read_header, read_items, same_kind}
unfoldable pub use GraphText.{uses}
pub use ArrivalsText.{InputArrival}
unfoldable pub use ArrivalsText.{arrivals_text, input_arrival_numbers, input_arrival_of, read_arrivals, read_input_arrivals, read_input_arrival_lines, timed_by}
pub use Mapper.{Answer, Call, Design, Returned, call_of, design_of, short, tried_early}
unfoldable pub use Mapper.{answer_of, map_design, map_texts, read_listed, read_texts, returned, returned_by, text_after, within, work_after}
pub use Channels.{Channel, Needs, Outcomes, TwoCall, alone, channel_of, two_call_of}
unfoldable pub use Channels.{answers_of, map_needs, map_two, need_of, needs_of, two_work_after}
pub use Demands.{Alike, AlikeTexts, Chosen, ChosenCover, CoversTimed, Decided, Distinct, Earliest, EitherEnd, Formed, Former, Gated}
pub use Demands.{InOrder, LinesOf, Listed, ListedFor, Lists, LowestUncovered, Mappable, Memory, NoEarlier, OfMappable, OfPrinted, OneLine}
pub use Demands.{OutputsNoEarlier, Preferred, Ranges, Readable, SameButEnds, SameFigures, SamePlace, SameValues, Sequenced, Timed, AsciiForms}
pub use Demands.{TwoLines, Untimed, Values, WithinRanges, choice_figures, choice_text, none, of_arrivals, of_library, on_graph, printed_text}
pub use Demands.{read_former, read_untimed, two}
unfoldable pub use Demands.{at_fault, driven_nets, first_word, former_outcome, is_binary_text, line_start}
pub use OrderDemands.{Ascending, FirstOverLimit, Follows, IsCut, IsUnion, Many, Order, OrderOfAll, Stands, of_and, of_constant, of_input}
pub use OrderDemands.{of_operands}
pub use ShuffleDemands.{Agree, EarliestAt, SameCells, SameLines, Shuffled, Shuffles, on_library}
unfoldable pub use ShuffleDemands.{behind_first, cell_lines}
unfoldable pub use NetlistLines.{are_digits, gate_form, gate_of, is_bound, is_figures, is_gate_net, is_inner_net, is_label, is_name_list, is_phase_net}
unfoldable pub use NetlistLines.{is_timing, is_wire, of_form, of_list}
unfoldable pub use Tally.{add_each, after_gates, area_of, behind_gates, cell_line, count_text, counted, expected_lines, empty_tally}
unfoldable pub use Tally.{preamble, gate_in, gates_in, in_width, nothing_left, outputs_of, read_counted, report_line, report_of, report_text, times}
unfoldable pub use Tally.{tally_after, timings, total_line, wire_pairs}
pub use GenlibWords.{token_prepended}
unfoldable pub use GenlibWords.{decimals, in_thousandths, is_blank, is_digit, is_digits, is_empty, is_figure, is_fraction, is_sign, is_word}
unfoldable pub use GenlibWords.{is_word_byte, lead, span, starts_word, thousandths, tokens, wholes}
pub use GenlibFormula.{Taken}
unfoldable pub use GenlibFormula.{add_pins, atom, begins, chain, close_bracket, const0, const1, factor_of, formed, index_of, is_done, is_pin}
unfoldable pub use GenlibFormula.{name_value, opened, pins_of, product_of, quoted, row_bits, scan, scan_after, scan_expected, scan_token, shallow}
unfoldable pub use GenlibFormula.{sum_of, negated_by_signs, value_taken, with_name}
pub use Genlib.{Group}
unfoldable pub use Genlib.{cells_text, delay_of, delays_of, first_name, formula_of, gate_from, gate_head, gate_text, genlib_text, group_formed}
unfoldable pub use Genlib.{group_small, grouped, groups, has_line, hex_byte, hex_text, is_gate_line, is_pin_line, is_there, line_is, line_tokens}
unfoldable pub use Genlib.{number_text, pin_delay, pin_head, pin_line, read_genlib, read_group, read_groups, starts_gate, table_of, written_after}
unfoldable pub use Genlib.{written_answer, written_by, written_pair}
pub use GenlibDemands.{GateMeans, GatesMean, GenlibDemand, HasDelay, HasValue, Listable, Means, Part, bracketed, factor, plus, primed}
pub use GenlibDemands.{product, sign_negated}
unfoldable pub use GenlibDemands.{cell_of_gate}
pub use Check.{Checked, Driver, Edited, CheckResult}
unfoldable pub use Check.{added, among, bound_nets, cell_named, check_read, check_texts, checked_work, compare_from, driven_twice, feeding}
unfoldable pub use Check.{first_line, first_wrong, preamble_of, gate_driver, gate_of_fields, input_nets, input_values, is_gate, is_line, is_net}
unfoldable pub use Check.{validate_nets, line_ends, name_driver, net_value, on_cycle, output_nets, past_lines, past_row, pin_net, read_drivers}
unfoldable pub use Check.{read_edited, read_names, read_netlist, run_nets, assignment_of, settled, take_ready, result_by, result_from, result_of, undriven}
unfoldable pub use Check.{unless_at, wrong_at}
pub use CheckDemands.{AcceptsPrinted, CheckMemory, CheckPromised, Compared, ComparedCheck, DriverValues, EqualCheck, MeansText, MeantCheck}
pub use CheckDemands.{PrintedAccepted, Right, RightUnder, ValuesUnder}
