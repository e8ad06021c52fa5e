-- `LoadedWords`: words that hold a graph, every word of them said. `OrderWords`: what ordering the ANDs answers and leaves in the words.
-- `UserLinks`: the ANDs that wait, listed by their operands, and those of them that are ready.
pub mod LoadedWords
pub mod OrderWords
pub mod UserLinks
pub use LoadedWords.{Fit, LoadedGraph, InOrder, Sure, Within, kind_of, left_of, right_of}
pub use OrderWords.{Operands, in_graph, pick_n, pick_verdict, pick_words, ready_in}
unfoldable pub use OrderWords.{is_ordered, is_ready, is_waiting, next_and, order_low, order_words, ordered_verdict, ordered_words, put_ordered, ready_from}
unfoldable pub use OrderWords.{seek, waiting_from}
pub use UserLinks.{Both, Kept, Listed, Lists, Next, Passed, Ready, UsersMarked, Waking}
unfoldable pub use UserLinks.{passed_to, taken_from, use_of}
