-- `CutPasses`: the second pass finds what it asks for, and what both leave. `OrderedNodes`: in the words of an accepted graph each AND is ordered behind its operands.
-- `EnumerationLaws`: what the layer answers and leaves is what `model` defines.
pub mod CutPasses
pub mod OrderedNodes
pub mod EnumerationLaws
pub use OrderedNodes.{earlier-slot}
pub use EnumerationLaws.{enumerate_listed, enumerate_ready, enumerate_represents, enumerate_verdict}
