-- `TallyColumns`: the numbers, column by column. `RoundTrip`: a tally put into numbers is read out of them, and what it then says. `TallyCallRecords`: what the calls promise.
pub mod TallyColumns
pub mod RoundTrip
pub mod TallyCallRecords
