-- `GateDifferences`: what the readers of differences find at a place of the text. `BodyPasses`: what the passes over inputs, output lines and ANDs leave in the words.
pub mod GateDifferences
pub mod BodyPasses
pub use GateDifferences.{less_of}
unfoldable pub use GateDifferences.{gate_at}
pub use BodyPasses.{as_verdict, gate_of, input_literals, input_step}
unfoldable pub use BodyPasses.{binary_words, gate_left, gate_step, input_left, output_left, output_step, outputs_step, pass_step, pass_words, with_inputs}
unfoldable pub use BodyPasses.{with_outputs}
