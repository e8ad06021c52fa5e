-- `Weights`: what is counted at the places is what is counted of the gates. `UsedCells`: the cells of a netlist that is counted. `NumberedLines`: no refusal has the number 0.
-- `LineWords`: a text by its lines, a line by its words. `ExpectedMet`: lines that meet what is expected. `FigureBounds`: what a counted netlist's `# gates` line says; `TallyTextCases`: the
-- same by computing. `SumLaws`: the sums and figures of `promises.Sums`. `NamedGates`: what is counted of a cell is the netlist's lines that name it. `NetlistRows`: the lines that
-- mapping prints. `PrintedCounts`: they are counted, with their own figures. `TallyDemandLaws`: a tally and its report say what `promises.TallyDemands` asks; `DemandCases`: what
-- that reads, by computing. `CountWords`, `CountLines`, `CountSteps`: the words and lines of a counted netlist have their forms. `CountRun`: the reading line by line.
-- `CountExactly`, `CountCallLaws`: 1, 28, 29 and 18 come exactly by `promises.CountRefusals`.
pub mod Weights
pub mod UsedCells
pub mod NumberedLines
pub mod LineWords
pub mod ExpectedMet
pub mod FigureBounds
pub mod TallyTextCases
pub mod SumLaws
pub mod NamedGates
pub mod NetlistRows
pub mod PrintedCounts
pub mod TallyDemandLaws
pub mod DemandCases
pub mod CountWords
pub mod CountLines
pub mod CountSteps
pub mod CountRun
pub mod CountExactly
pub mod CountCallLaws
pub use Weights.{added-length}
pub use UsedCells.{counted_by_lem}
pub use PrintedCounts.{counts-printed}
pub use NumberedLines.{count-numbered, report-numbered}
pub use TallyDemandLaws.{reads-back, tallied-more, tallied-none}
pub use CountCallLaws.{count_exactly, report_exactly}
