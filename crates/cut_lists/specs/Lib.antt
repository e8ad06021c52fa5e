-- `CutKeys`: a cut as one number, and the cuts of a node as a list of such numbers. `CutLists`: the lists of all variables, in topological order.
-- `RepresentedWords`: the words that hold an ordered graph. `PackedCuts`: the leaves of a cut in one number.
pub mod CutKeys
pub mod PackedCuts
pub mod CutLists
pub mod RepresentedWords
pub use CutKeys.{Building, Moved, InsertPosition, Rising, key_capacity}
unfoldable pub use CutKeys.{added, added_cut, merged_keys, key, key_from, key_words, node_keys, put_keys, merge_row_keys}
pub use PackedCuts.{Digit, Masked, Packed, column_mask, merge_row_mask}
unfoldable pub use PackedCuts.{pack, conflict_mask, signature, unit_at}
pub use CutLists.{Known, Operands, Ready, State}
unfoldable pub use CutLists.{cuts_now, few, join, listed, listing, onward, step_cuts, stored}
pub use RepresentedWords.{Uncut}
