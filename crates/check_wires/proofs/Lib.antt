-- `HashBuckets`: walks along buckets, and a driver put on one. `PinReferences`: the numbers at pins, one by one. `DriverLookup`: what is found is what is computed.
pub mod HashBuckets
pub mod PinReferences
pub mod DriverLookup
