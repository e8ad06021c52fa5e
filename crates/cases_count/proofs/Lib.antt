-- `CountCases`: what a count refuses. `CountPremises`: what a promise of a count asks is had. `NumberCases`: which of 97 numbers is which.
pub mod CountCases
pub mod CountPremises
pub mod NumberCases
