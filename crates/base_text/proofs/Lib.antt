-- `Bytes`: the laws of `same` and `all`. `Decimal`, `Hex`, `NameBytes`: numbers in decimal, tables and names, by what a reader met. `TextWords`: the field at a place. `ByteRuns`: its digits, one by one.
-- `SearchEnds`: a search that finds nothing. `FoundNumbers`: a number that was found and its cursor. `SpanSearch`: a field and the byte behind it. `CursorReads`: what is read from field to field is what the crate model makes of the line. `NumberParsing`: a line of numbers. `Spans`: where a line stops and the next begins. `Differences`: a difference of the binary form. `WriteProgress`: writers one after the other. `ByteClassLaws`: the longest beginning of which every byte passes a test.
pub mod Bytes
pub mod Decimal
pub mod Hex
pub mod NameBytes
pub mod SearchEnds
pub mod TextWords
pub mod ByteRuns
pub mod FoundNumbers
pub mod SpanSearch
pub mod CursorReads
pub mod NumberParsing
pub mod Spans
pub mod Differences
pub mod WriteProgress
pub mod ByteClassLaws
pub use Bytes.{and-false, and_left, and_right, and-true, not_same, or-true, same-eq, same_refl}
pub use Decimal.{dec_below, dec_big, dec_big_length, dec_small, dec_small-length}
pub use NameBytes.{name-fits, name_taken}
pub use TextWords.{end_fits, end-from, end_le, part-is}
pub use SpanSearch.{found, found_end, nth, number-end-is, number_is, past, past_end, table_is, then_o}
pub use CursorReads.{fields_at, lines_at_lem, lines_none, past-at}
unfoldable pub use CursorReads.{line_fields, of_length}
pub use NumberParsing.{line-words, numbers-at, numbers-ended, ten-ended, ten-number}
pub use Spans.{first-contents, first_fits, first-is, span-contents, span-ended, span_fits, span-from, span-long, span-next, span_out}
pub use Differences.{differs_broken, differs_found}
pub use WriteProgress.{Partly, as_wrote, begin, end, finish, idle, kept, put_front, capacity, step}
pub use ByteClassLaws.{class_all, class_drop, class_end, class_from, class_le, class_out, class_part, class_passes, class_past, class_short, class_step}
pub use ByteClassLaws.{class_stop, class_take, word_other, word_out, word-past, word-short, word-step, word_stop}
