-- `ParsePositions`: what the readers of a line find at its places.
pub mod ParsePositions
pub use ParsePositions.{Listed, Nth, Within, WordPart, behind_at, depth_of, from_at, name_at, no_pins, part, pick_l, pushed, rest_at, taken_at, token_at}
pub use ParsePositions.{signed_at}
unfoldable pub use ParsePositions.{add_pin, after_step, close_step, expected_step, end_at, end_step, names_at, nth_at, opened_by, parts_at, pins_from, scan_step}
unfoldable pub use ParsePositions.{with_pin}
