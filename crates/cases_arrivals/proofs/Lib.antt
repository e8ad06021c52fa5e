pub mod ArrivalCases
