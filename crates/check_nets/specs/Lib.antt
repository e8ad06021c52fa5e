-- `WiredNets`: what stands at each pin, and an order. `Components`: component numbers of drivers. `ValidatedNets`: what is lent, and what the answer means.
-- `WireContracts`: what `wire` asks, and what it says of nets, pins and order.
pub mod WiredNets
pub mod Components
pub mod ValidatedNets
pub mod WireContracts
pub use WiredNets.{Ordered, no_driver}
unfoldable pub use WiredNets.{net_of}
pub use Components.{Rising}
pub use ValidatedNets.{Stored}
unfoldable pub use ValidatedNets.{left_by}
pub use WireContracts.{Wirable, Wiring}
