-- `CertifiedNetlist`: what is promised of a netlist that is printed by a certificate. `GraphSpelling`: the graph that a text spells.
pub mod CertifiedNetlist
pub mod GraphSpelling
pub use CertifiedNetlist.{FiguresOf, Proved}
pub use GraphSpelling.{InSequence, Lines, Spells, ascii, binary, both, none, ten}
unfoldable pub use GraphSpelling.{ascii_lines, binary_text, counts_text, differences, groups, numbers_text}
