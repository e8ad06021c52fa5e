pub mod FormulaShapes
pub mod Grammar
pub mod UniqueMeaning
pub mod TokenLaws
pub mod CellsBack
pub mod GateText
pub mod GenlibDemandLaws
pub use FormulaShapes.{none-some, some-once, word-sign}
pub use UniqueMeaning.{value-formed, value-once}
pub use TokenLaws.{drop_in, sign-alone}
pub use GenlibDemandLaws.{demand_genlib, formed-value, group_short, group_value}
