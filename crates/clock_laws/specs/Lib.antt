-- Clocks along a log, and the laws that join them to the memory model.
pub mod Clocks
pub mod ViewFloor
pub mod Theorems
pub mod Lemmas
pub mod ClockExamples
