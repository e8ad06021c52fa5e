-- `WordBits`: one bit of a word set or flipped, and its lowest set bit. `BitSetLaws`: the laws of the set.
pub mod WordBits
pub mod BitSetLaws
pub use BitSetLaws.{add_in, add-set, add_other, by_leb, empty-has, empty-set, lowest_in_lem, lowest-least, remove_set, remove_other}
pub use BitSetLaws.{remove_out}
