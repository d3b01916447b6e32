-- What is known by a clock, and clocks in tables and lists.
pub mod Knowing
pub mod Tables
pub mod Spans
pub mod EventSpans
pub mod KeptClocks
pub mod Zeros
