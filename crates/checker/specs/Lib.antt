-- `BufferBounds`: the words that every check takes.
pub mod BufferBounds
