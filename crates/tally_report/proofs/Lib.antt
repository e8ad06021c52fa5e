-- `ReportLines`: a report's lines, their parts and lengths. `ReportLength`: the page that it is written on, and the answers.
pub mod ReportLines
pub mod ReportLength
