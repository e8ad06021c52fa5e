pub mod CheckCases
