pub mod MoveEvents
