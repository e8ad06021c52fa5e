pub mod MapCases
pub mod CornerCases
