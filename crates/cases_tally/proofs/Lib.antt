pub mod TallyCases
unfoldable pub use TallyCases.{once, tallied, with}
