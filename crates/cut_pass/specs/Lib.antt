-- `Enumeration`: what the layer asks for and what it leaves, in terms of its two passes. `EnumeratedLists`: what it leaves, in terms of `model`.
pub mod Enumeration
pub mod EnumeratedLists
pub use Enumeration.{Ready}
unfoldable pub use Enumeration.{enumerated, filled_after}
