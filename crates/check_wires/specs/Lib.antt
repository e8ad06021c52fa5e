-- `BucketLayout`: drivers found by the numbers of their nets. `References`: what stands at each pin, computed. `PinDrivers`: what is known of it.
pub mod BucketLayout
pub mod References
pub mod PinDrivers
pub use BucketLayout.{Chained, Falling, Found, InputOf, On, head_of, here, later, own_at, pins_at, use_at}
unfoldable pub use References.{driver_of, first_from, uses_undriven, is_driven_twice, pin_of, ref_at, refs_left, refused_at, values_from}
pub use PinDrivers.{Driven, Drivers, First, Looked, UsesUndriven, Once, Pin, PinLooked, Referred, Row, Rows, Undriven, Upto, Written, once, twice_driven}
