-- `LeafNotes`: the table of a leaf. `ConeWalks`: what a walk finds and notes. `FunctionFills`: the pass over all cuts.
-- `ConeTables`: the word of a walk is the table of `model`. `FunctionMeaning`: so are the functions that are left.
pub mod LeafNotes
pub mod ConeWalks
pub mod FunctionFills
pub mod ConeTables
pub mod FunctionMeaning
pub use ConeWalks.{ordered-kept, same_place}
pub use FunctionFills.{Under, filled-above, filled-low, filled-under, filled-word, under-cuts, under-sound}
pub use FunctionMeaning.{functions_of_lem}
