-- `TallyBounds`: a report is within the memory lent to it. `FileNames`: a file's name is ASCII.
pub mod TallyBounds
pub mod FileNames
