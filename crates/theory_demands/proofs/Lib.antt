pub mod Needs
pub mod RefusalRanks
pub mod PhaseNets
pub mod ChosenGates
pub mod Wires
pub mod NetDemands
pub mod NetValues
pub mod GateArrivals
pub mod PairsFormed
pub mod GateLinks
pub mod RangeDemands
pub mod CallDemands
pub mod CoverRelations
pub mod Shuffles
pub mod RefusalDemands
pub mod CallSequence
pub mod ChannelDemands
pub use Needs.{listed-needed}
pub use RefusalRanks.{Fitting, OfPair, double, single}
pub use PhaseNets.{OfPhase, gates_double, gates_single, inside-apart, map-take}
pub use ChosenGates.{NeedsOf, bound, by_feeding, chosen_gates, fed_at, gate-listed, gate_out, gates_at, line-bound, of_gates_lem}
pub use Wires.{at-output, out_label, wire-targets}
pub use NetValues.{net-value}
pub use PairsFormed.{few-at, few-key, needed-driven, well_formed}
unfoldable pub use PairsFormed.{key_of}
pub use RangeDemands.{no_lower_lem}
pub use CallDemands.{design-fitting, readable, with_timings}
pub use RefusalDemands.{Refusal, followed-refusal, map-refusal, within-refusal}
pub use ChannelDemands.{promised, two-promised}
