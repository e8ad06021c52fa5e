-- `BitSet`: a set of numbers below 4,096 in 65 words.
pub mod BitSet
pub use BitSet.{lowest_in}
unfoldable pub use BitSet.{added, has, lowest_of, removed}
