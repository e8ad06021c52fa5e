-- `BufferSizes`: what `main` lends is enough.
pub mod BufferSizes
