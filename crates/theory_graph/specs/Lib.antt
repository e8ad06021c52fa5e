-- `AcceptedGraph`: a graph and a library free of the refusals that their texts can bring.
pub mod AcceptedGraph
unfoldable pub use AcceptedGraph.{cell_fits, distinct, library_fits}
