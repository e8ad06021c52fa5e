-- `GenlibLines`: what the readers of lines and groups find at places of the text.
pub mod GenlibLines
pub use GenlibLines.{Inside, line_found, lines_of}
unfoldable pub use GenlibLines.{behind_group, delay_for, gate_word, group_at, group_is, lines_behind, pin_has, start_of}
