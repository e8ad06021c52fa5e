-- `AnswerValues`: the values of each case of an answer.
pub mod AnswerValues
