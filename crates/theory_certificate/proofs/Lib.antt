-- `Steps`: what a move asked for. `Sound`, `Runs`: what moves make known is so. `Order`, `Has`: what nets have by a rule of their gates exists. `PrintedNetlist`: values of
-- the printed netlist. `Ranks`: values of the graph. `Figures`, `CertificateRanges`: its figures, and the ends of the `# timing` lines. `Whole`: all that is promised.
pub mod Steps
pub mod Sound
pub mod Runs
pub mod Order
pub mod Has
pub mod PrintedNetlist
pub mod Ranks
pub mod Figures
pub mod CertificateRanges
pub mod Whole
pub mod SpellingLaws
pub mod Cases
