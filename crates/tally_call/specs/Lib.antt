-- `TallyWords`: a tally put into 97 numbers.
pub mod TallyWords
unfoldable pub use TallyWords.{stored}
