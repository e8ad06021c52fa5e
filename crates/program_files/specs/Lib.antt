-- `TextParts`: where a text of several ends.
-- `FileLoading`: what a file that was read leaves in the buffer.
pub mod TextParts
pub mod FileLoading
unfoldable pub use TextParts.{before, end_from}
pub use FileLoading.{Found_in, Loaded_in}
