-- `SlotLookup`: a look-up by its answer.
pub mod SlotLookup
