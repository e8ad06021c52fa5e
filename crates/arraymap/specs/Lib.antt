pub mod CallAnswers
pub mod CallRecords
pub use CallAnswers.{CheckedValues, TextValues, VerdictValues, answered, answered_text, checked_answer}
unfoldable pub use CallAnswers.{verdict_pair}
pub use CallRecords.{Called, CalledCheck, CalledCount, CalledGenlib, CalledReport, CalledTwo}
