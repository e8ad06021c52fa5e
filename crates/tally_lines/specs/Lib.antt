-- `FieldSteps`: the fields of a line from a place on, and a step over one that passes its test. `LineKinds`: the test of each kind of field, and what stands for a gate line.
pub mod FieldSteps
pub mod LineKinds
pub use FieldSteps.{pick_n}
unfoldable pub use FieldSteps.{field_at, field_end, fields_at, step_at, steps_at}
pub use LineKinds.{Listed}
unfoldable pub use LineKinds.{kind_test}
