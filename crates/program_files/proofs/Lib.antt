-- `FileEnds`: an end is no earlier than its text's beginning and within the input.
pub mod FileEnds
