-- `TextFits`: a graph in the limits.
pub mod TextFits
pub use TextFits.{GraphFits, LowLiterals}
