-- `LineForms`: what the texts' bytes may be. `Refusals`: the condition of each number that a text can bring. `Outcomes`: of every number of a call. `Covers`: cuts,
-- matches, covers, arrivals. `Earliest`: demand 3. `Left`: what is returned and left of the lent memory. `Promised`: what is promised of a call, the page to
-- read. `TwoDemands`: of a call for two channels.
-- The other calls: `GateForms`, `GateRefusals` and `TextCalls` a genlib text; `CountForms`, `CountRefusals`, `Sums`, `TallyDemands`, `TallyNumbers` and `TallyCalls` a
-- tally; `CheckForms`, `CheckRefusals` and `CheckCalls` an edited netlist. The page of each is the file named `..Calls`.
pub mod LineForms
pub mod Refusals
pub mod Covers
pub mod Earliest
pub mod Left
pub mod Outcomes
pub mod Promised
pub mod TwoDemands
pub mod GateForms
pub mod GateRefusals
pub mod TextCalls
pub mod CountForms
pub mod CountRefusals
pub mod Sums
pub mod TallyDemands
pub mod TallyNumbers
pub mod TallyCalls
pub mod CheckForms
pub mod CheckRefusals
pub mod CheckCalls
pub use LineForms.{Begins, CellFields, CellLine, Decimal, Difference, End, HeaderLine, Hex, Letter, LineOf, MinDelays, Name, NameByte}
pub use LineForms.{Names, NamesLine, Number, NumberFields, NumberLine, Numbers, Table, Title, TitleLine, Within, Word, aag, aig, both, digit}
pub use LineForms.{figure, four, given, joined, letter, long, longer, more, name, same, short, shorter, ten, title}
pub use Refusals.{Again, AndFault, AndsHold, AndsIn, AndsRefused, ArrivalsFault, ArrivalsHold, CellFault, CellsIn, Clean, DefinedBy}
pub use Refusals.{Defining, ExpectedFault, ExpectedHolds, ExpectedIn, ExpectedLine, ExpectedRefused, Exactly, Exceeds, FirstStray, GraphFault, GraphIn, HeaderFault}
pub use Refusals.{HeaderHolds, ItemsFault, ItemsIn, InputArrivalFault, LatesIn, Lawful, LibraryFault, LibraryHolds, OutOfSequence, Ranged, Repeated}
pub use Refusals.{Short, Stray, TextsFault, ToCells, ToDesign, ToHeader, Using, Wants, a_cell, a_input_arrival, a_line, and_defines, and_uses, and_wants}
pub use Refusals.{ascii_items, at_input_arrival, at_line, binary_items, expected_kinds, eight, eleven, first_var, five, fourteen, input_defines, input_wants}
pub use Refusals.{inputs_of, nine, nineteen, no_and, no_cell, no_input_arrival, no_line, no_title, of_ands, of_arrivals, of_graph, of_header, of_items}
pub use Refusals.{of_library, of_lines, of_outputs, one, one_and, output_uses, output_wants, seven, six, thirteen, thirty, three, twelve, twenty}
pub use Refusals.{twenty_five, twenty_next, twenty_one, twenty_one_next, twenty_seven, twenty_six, two}
pub use Outcomes.{LowestUnordered, NoneOverLimit}
pub use Promised.{Fits, Mapping}
pub use TwoDemands.{AlikeChannels, Alone, Each, EitherEndTwo, Independent, MappingTwo, Neither, TogetherRefused, AsciiChannels, TwoMemory}
pub use TwoDemands.{TwoPromised, on_text}
pub use TextCalls.{Conversion, TextWritten}
pub use TallyNumbers.{overfull}
unfoldable pub use TallyNumbers.{tally_of}
pub use TallyCalls.{CountSums, NetlistCount, ReportSums, TallyCounted, TallyReport}
pub use CheckCalls.{CheckedMemory, NetlistCheck, UpToTen}
