-- `BestMatch`: the laws of the first of the earliest. `FirstVariants`: variants that need not be tried. `BucketLinks`: the buckets list the variants of each table. `VariantStores`: what is put on the match table for a cell. `BucketLists`: the variants of a table are 01's matches of a
-- cut. `VariantArrivals`: a variant's arrival is its match's. `MatchChoice`: the best variant is 01's choice. `InverterChoice`: the best inverter is.
-- `PairMatches`: the cells to map with, pairs among them.
pub mod BestMatch
pub mod FirstVariants
pub mod BucketLinks
pub mod BucketWalk
pub mod VariantStores
pub mod VariantArrivals
pub mod BucketLists
pub mod MatchChoice
pub mod InverterChoice
pub mod PairMatches
pub use BestMatch.{choose_append, earlier-first, earlier-second, earlier_strict, earlier_tie}
pub use BucketLinks.{library_in_bounds}
pub use BucketWalk.{walking_none}
pub use VariantArrivals.{phase-input-arrival}
pub use MatchChoice.{best_match_chosen, phase-end, under_first, under_rest}
pub use InverterChoice.{inverter-chosen}
pub use PairMatches.{inverter_by, matchable_by, pairs_first, matches_by}
