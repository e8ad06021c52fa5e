pub mod AnswerLaws
pub mod GenlibTables
pub use AnswerLaws.{answer-returns, check_tells, counted-rules, handed_on, header-refusal, library-refusal, refusal_parts, verdict-refusal, verdict-rules, written-refusal}
pub use GenlibTables.{row-bit, row-none, rows_less, rows-most, table-above, table-value}
