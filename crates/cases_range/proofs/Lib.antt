pub mod RangeCases
