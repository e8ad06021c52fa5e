-- `LineEndChecks`: bytes 10. `NetlistShape`: what is read of a netlist has its form. `InputCodes`: the inputs' nets. `RefusalNumbers`: which refusals come up to 10. `CheckStages`: what
-- each function has once the layer below has answered.
pub mod LineEndChecks
pub mod NetlistShape
pub mod InputCodes
pub mod RefusalNumbers
pub mod CheckStages
