-- `GenlibCases`: genlib read, and the cell text written. `GenlibPremises`: what the promise of a written text asks is had.
pub mod GenlibCases
pub mod GenlibPremises
