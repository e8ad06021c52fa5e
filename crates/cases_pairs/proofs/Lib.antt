pub mod PairCases
pub mod ShuffleCases
pub mod PairWitnesses
