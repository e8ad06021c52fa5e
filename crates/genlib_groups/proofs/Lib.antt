-- `GenlibFigures`: figures in thousandths. `GenlibLineLaws`: the line at a place. `GroupReading`: the lines up to the next GATE line, and the one that counts.
pub mod GenlibFigures
pub mod GenlibLineLaws
pub mod GroupReading
pub use GenlibLineLaws.{bounded}
