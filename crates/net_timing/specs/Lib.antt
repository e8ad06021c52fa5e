-- `MinArrivalWords`: the minimum arrivals, from the words and into them. `TimingLines`: the timing lines.
-- `TimingContracts`: what the minimum arrivals are, for whatever cells the tables of pins and delays are of.
pub mod MinArrivalWords
pub mod TimingLines
pub mod TimingContracts
pub use MinArrivalWords.{InverterIn, MinsOf, Retimable, after, own_at, put_min}
unfoldable pub use MinArrivalWords.{latest_min, match_min, own_min, retimed_step, retimed_up, inverter_min}
pub use TimingLines.{line_length, line_of}
unfoldable pub use TimingLines.{line_text, lines_from}
pub use TimingContracts.{MatchTimable, MatchTimed, SourceTimed, VariableTimed, VariablesTimable, VariablesTimed}
