-- `WordStores`: the laws of `put_at`. `WordRanges`: a record after words were put. `ColumnAddresses`: the layout fits together.
-- `StoredCuts`: cuts in words; what was stored is there, and nothing else changed. `CutFunctions`: so for their functions. `MinArrivals`: so for the minimum arrivals. `PhaseWords`: so for nodes, phases and the needed ones.
-- `CutColumns`: the cuts as they stood one after the other, and that each is found under its old number.
pub mod WordStores
pub mod WordRanges
pub mod ColumnAddresses
pub mod StoredCuts
pub mod CutFunctions
pub mod MinArrivals
pub mod CutColumns
pub mod PhaseWords
pub use WordStores.{get_put, get_put-above, get_put-below, length-put, put_append, put-more, put-none, put_one}
pub use WordRanges.{part_apart, part-put, word-apart, word-put, zero-put}
pub use ColumnAddresses.{capacity_for, capacity-need}
pub use StoredCuts.{count-listed, cut-listed, cut-same, cuts-more, cuts-same, four-leaves, good_get, represented-count, represented-cut, none-listed}
pub use StoredCuts.{put_list_above, put_list_below, put_list_cuts, put_list_length, put_list_middle, put_list_other, put_list_sound}
pub use StoredCuts.{put_list_sound_other, sound-same}
pub use CutFunctions.{function-apart, function-fits, function-same, function-stored, functions_more, functions-none, put-functions-before}
pub use CutFunctions.{put-functions-behind, put-functions-length}
pub use MinArrivals.{min-arrival-apart, min-arrival-before, min-arrival-behind, min-arrival-length, min-arrival-put}
pub use CutColumns.{former-length, former-zeros}
unfoldable pub use CutColumns.{former}
pub use PhaseWords.{length-phase, needed_other, needed-put, node-apart, node-length, phase-apart, phase-none, phase-put}
