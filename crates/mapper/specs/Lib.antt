-- `MapStages`: what the words hold between the layers, and the outcome from each layer on.
-- `StageContracts`: what the stages of a call ask, and what they answer for whatever graph the words are of.
pub mod MapStages
pub mod StageContracts
pub use MapStages.{Cut, Given, Left, LibraryOk, LibraryRead, Loaded, Lowered, OrderedGraph, Timeable, Timed, Answered, Under, all_of, cut_for, design_of}
pub use MapStages.{done, headed_of, loaded_for, more, ordered_for, printed_for, times_of}
unfoldable pub use MapStages.{graph_for, header_for, library_for, times_for}
pub use StageContracts.{CutAnswered, Cuttable, GraphMappable, GraphAnswered, HeaderLeft, Printable, Printed}
