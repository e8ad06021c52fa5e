-- The readers of the texts against the conditions of specs/, from the fields up:
--     FieldForms, LineForms, NumberLines      numbers, names, tables; lines and their ends; lines of numbers
--     HeaderForms, CellForms, LibraryForms    7 to 9 and 19; a cell line; 2 to 6 and 27
--     ExpectedForms, UseForms, DifferenceForms     11 to 13; 14; 20 and 21
--     GraphForms, ArrivalForms, TextForms     the graph in either form; 25 and 26; the texts of a call, in checking order
--     OutcomeForms                            the outcome of a call: 15 and 16 too
--     Inhabited                               calls of which the premises of demand 3 and of N13 hold
pub mod ReadResults
pub mod FieldForms
pub mod LineFormLaws
pub mod HeaderForms
pub mod CellForms
pub mod LibraryForms
pub mod NumberLines
pub mod ExpectedForms
pub mod ArrivalForms
pub mod UseForms
pub mod DifferenceForms
pub mod GraphForms
pub mod TextForms
pub mod OutcomeForms
pub use ReadResults.{Result, exactly, exactly_holds, exactly_map, exactly_next, exactly_unless, held, next-holds, next-next, next-same, on}
pub use ReadResults.{refused, result_as, unless_no, unless-yes}
pub use FieldForms.{AllFree, byte_back, byte_form, decimal-only, digits_form, fields-joined, joined_free, joins, letter-back, letter_form}
pub use FieldForms.{name_form, name_free, within-back, within_form, yes_or}
pub use LineFormLaws.{begins-read, ended-lines, first-split, found-begins, free-above, held-lines, lines_none, none-begins, reads-line}
pub use HeaderForms.{header_exactly}
pub use LibraryForms.{library_exactly, names-read, reads-names}
pub use GraphForms.{graph_exactly}
pub use OutcomeForms.{demand_refusals}
