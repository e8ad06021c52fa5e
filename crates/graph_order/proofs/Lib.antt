-- `OrderSlots`: a slot of the topological order that is filled. `ReadySearch`: the first number that passes a test. `OrderedWords`: ordering, as the words have it.
-- `UserLists`: the ANDs that wait, listed by their operands, and the marks of those that are ready. `ReadyInvariant`: the loop that goes by these.
-- `OrderLaws`: ordering is the model's topological order.
pub mod OrderSlots
pub mod ReadySearch
pub mod OrderedWords
pub mod UserLists
pub mod ReadyInvariant
pub mod OrderLaws
pub use OrderSlots.{elem_snoc, fit_length, fit-capacity, position_holds, within_snoc}
pub use ReadySearch.{seek-end, seek-here, seek-past}
pub use OrderLaws.{loaded_operands, holds-nodes, mem_index, ordering_law, order-verdict}
