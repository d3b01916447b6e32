-- What contracts see of a tape, of a history and of an index; what an index answers; and the positions of a cell by their values.
pub mod Rooms
pub mod Indexes
pub mod IndexExamples
pub mod Occurrences
pub mod ScalarOrder
pub mod ByValue
pub mod Searching
pub mod Merging
pub mod Grouped
