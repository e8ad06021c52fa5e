-- `NetCodes`: names as numbers. `LineFields`: the fields of a line from a place on. `BoundPins`: the nets of a gate's line.
pub mod NetCodes
pub mod LineFields
pub mod BoundPins
unfoldable pub use NetCodes.{code, is_net_byte, net_code}
pub use LineFields.{pick_bytes}
unfoldable pub use LineFields.{fields_from, space_from, until_space}
pub use BoundPins.{gate_by, gate_of, gate_with, name_code, nets_of, opt_code, own_nets, pin_of, pin_with}
unfoldable pub use BoundPins.{letters, pin_at, two_words}
