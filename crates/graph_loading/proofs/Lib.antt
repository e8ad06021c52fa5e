-- `LineTestLaws`: the expected lines' kinds, and the tests of a line's literals. `DefinitionStores`: a graph that grows line by line, and the words that hold it.
-- `LoadStates`: the words after k expected lines. `LoadedItems`: the words after the items of a text, in either form. `LoadedLines`: the lines from a place on.
pub mod LineTestLaws
pub mod DefinitionStores
pub mod LoadStates
pub mod LoadedItems
pub mod LoadedLines
pub use LineTestLaws.{Short, code, expected-and, expected-code, expected-input, expected-output, expected_kind_value, fit-defined, fit-right, item_list, item_of, pick_kind, taken_is}
pub use DefinitionStores.{nothing}
pub use LoadStates.{State, and_of, grown, more, state_first, state_more}
pub use LoadedItems.{Stored, accepted-holds, defined_more, expected-missing, expected-none, expected-whole, fault-holds, graph-represented, graph_is, next-holds}
pub use LoadedItems.{stored-behind, stored-defined, stored_loaded, stored_more, stored-none, verdict-next}
unfoldable pub use LoadedItems.{joined}
pub use LoadedLines.{item-numbers, lines_of, output-number}
