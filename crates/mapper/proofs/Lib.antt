pub mod NetlistStage
pub mod StageStates
pub mod CoverLaws
pub mod StageLaws
pub mod MinArrivalStage
pub mod RefusalOrder
pub mod CallEnds
pub mod LibraryBounds
pub mod MapLaws
pub mod ClearedWords
pub use CallEnds.{header-fault}
pub use LibraryBounds.{all-few, blank-joined, blank-listed, cells-back, formed_are, joinable_of, joined_ok, library-read, plain_ok}
