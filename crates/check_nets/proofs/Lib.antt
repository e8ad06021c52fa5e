-- `DriverCodes`: names by their numbers, and the numbers of a driver. `FirstLines`: the first line of each part of 33. `DrivenNets`: what the numbers say of the nets. `CycleSearch`: cycles and
-- the order. `ComponentNumbers`: what component numbers say of cycles. `NetValidation`: the three parts together.
pub mod DriverCodes
pub mod FirstLines
pub mod DrivenNets
pub mod CycleSearch
pub mod ComponentNumbers
pub mod NetValidation
