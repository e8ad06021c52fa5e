-- `CheckStates`: what the words and the array hold between the layers, and what is read from each on.
pub mod CheckStates
pub use CheckStates.{Formed, Left, Loaded, OrderedGraph, Wireable}
unfoldable pub use CheckStates.{graph_read, header_read, input_code, validated_read, netlist_read, ordered_read}
