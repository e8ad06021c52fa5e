-- `SortDefinition`: the order that is made, computed. `DriverOrder`: what is known of drivers listed one by one.
-- `OrderContracts`: what the functions that make the order ask, and what they leave in marks and order.
pub mod SortDefinition
pub mod DriverOrder
pub mod OrderContracts
pub use SortDefinition.{Down, Made, down, flat, made}
unfoldable pub use SortDefinition.{sort_of, push_fanin_of, visit_of, dives_from, fed_by, list_if_ready, ready_from, sweep_until_stable, step_of, sweep_from, walk_from}
pub use DriverOrder.{Sorted, Back, Behind, Cyclic, Fed, FeedsAt, LeftFeeds, Listed, Passed, Pinned, ListAttempted, Reached, Ready, Stable, Spread}
pub use DriverOrder.{Stepped, Stuck, SweepResult, Tried, FeedsItself, Walking, more, one}
unfoldable pub use DriverOrder.{left}
pub use OrderContracts.{AllTried, Arrangeable, DriverTried, Listable, OrderMade, TriedToEnd, WalkDone, WalkStep, Walkable}
