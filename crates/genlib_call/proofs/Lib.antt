-- `GateValidation`: a group validated, by what each reader of it found. `GatePasses`: the two passes, group by group, and what the call answers by what they find.
pub mod GateValidation
pub mod GatePasses
pub use GatePasses.{length-within}
