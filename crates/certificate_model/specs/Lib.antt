-- `Certificate`: a certificate of moves, each checked by tables of 16 rows over four variables of the graph, and the netlist that it makes.
pub mod Certificate
pub use Certificate.{Made, Move, Outcome, HasCapacity, State, add, again, alias, and, block, done, fold, no_row, pin, wired}
unfoldable pub use Certificate.{and_at, at, block_vars, certify, conj, feed_arrivals, feed_pins, feed_rows, feed_tables, fed_at, gate_at, gate_of, gate_row}
unfoldable pub use Certificate.{gate_table, leaf_table, lit_table, made_of, move, no_made, phased, pin_nets, push, push_equal, push_fact, push_net, push_var, row, run}
unfoldable pub use Certificate.{figures_by, out_row, out_rows, printed_text, same_row, start, started, timed_lines, with_gate, with_input}
-- `Acyclic`: what is asked of a graph so that it has values, with numbers that the certificate gives.
pub mod Acyclic
unfoldable pub use Acyclic.{defined_vars, is_acyclic, ordered, rises}
