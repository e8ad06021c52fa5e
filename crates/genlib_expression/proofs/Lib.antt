-- `TokenSpans`: the token at a place. `ExpressionWalk`: from token to token. `ExpressionScan`: the form.
-- `PinNumbering`: the list of pins. `ExpressionValues`: the value of an expression.
pub mod TokenSpans
pub mod ExpressionWalk
pub mod ExpressionScan
pub mod PinNumbering
pub mod ExpressionValues
pub use TokenSpans.{lead-part}
pub use ExpressionWalk.{all-step, nothing_left_lem, step}
pub use ExpressionScan.{lead-none}
pub use PinNumbering.{length-names, name_of_lem}
