-- `LineTests`: the expected lines' kinds, and the tests of a line's literals. `StoredLines`: what a line leaves in the words.
pub mod LineTests
pub mod StoredLines
pub use LineTests.{LineResult, LiteralsFit, expected_code, expected_count, literals, on_result}
unfoldable pub use LineTests.{is_already_defined, literals_fit, may_define}
unfoldable pub use StoredLines.{opened, stored_input, stored_line}
