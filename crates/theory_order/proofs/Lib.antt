pub mod OrderSplits
pub mod OrderProperties
pub mod AscendingCuts
pub mod CutRecursion
pub mod GreedyOrder
pub mod OverLimit
pub mod OrderSequence
pub mod PairOrder
pub use OrderSplits.{by_elem, cons_head, cons_tail, distinct-yes, lowest-none, nil_split, no_more, none_in, split_at}
pub use OrderProperties.{unordered-lowest_iff, unordered-none_iff}
pub use AscendingCuts.{compare_less, compare-more, less_compare}
pub use CutRecursion.{cut_leaf, cuts_exactly}
pub use OverLimit.{over_limit_first_iff, over_limit_none_iff}
pub use OrderSequence.{Lower, rising-ordered}
pub use PairOrder.{pairs-kept}
