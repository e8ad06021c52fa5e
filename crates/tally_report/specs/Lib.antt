-- `ReportPages`: a report's lines from one cell on.
-- `ReportContracts`: what is answered and left of the lent bytes.
pub mod ReportPages
pub mod ReportContracts
unfoldable pub use ReportPages.{cell_lines, figure_text, fitting}
pub use ReportContracts.{TextLeft, TextReturned}
