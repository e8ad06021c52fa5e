-- `SortSteps`: what is made is what is computed. `DriverLists`: a driver more on a list. `ReadyDrivers`: an order grown, and swept. `Reachability`: the walk back from a driver.
pub mod SortSteps
pub mod DriverLists
pub mod ReadyDrivers
pub mod Reachability
pub use DriverLists.{left-any, left-some}
pub use ReadyDrivers.{sorted_none}
pub use Reachability.{Walked, reached-start, spread-found, spread-next, spread_none, stepped_append, stepped_found, stepped_capacity, stepped_seen}
pub use Reachability.{walked_end, walked-few, walked-first, walked-found, walked_next}
