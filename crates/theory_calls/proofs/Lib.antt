-- `TextMemory`: a call that writes a text. `WorkMemory`: a check. `TallyMemory`: a count. `CallLineEnds`: the bytes 10 of a text.
pub mod TextMemory
pub mod WorkMemory
pub mod TallyMemory
pub mod CallLineEnds
pub use TextMemory.{text-written}
pub use WorkMemory.{checked_memory}
pub use CallLineEnds.{tens_are, tens_only}
