-- `PhaseGates`: a phase's gates as the code holds them, and what in the list of cell records they are made of.
pub mod PhaseGates
pub use PhaseGates.{Drives, FewPins, LineReady, NumberReady, PairReady, four_nets, inner_four, inner_in, inner_nets, inside_net, no_driver}
pub use PhaseGates.{one_driver, pair_driver, phase_net, root_four, root_in, root_net, root_nets, two_driver}
unfoldable pub use PhaseGates.{driver_by, gate_of, gates_of, gates_under, net_of, pins_by, root_pick}
