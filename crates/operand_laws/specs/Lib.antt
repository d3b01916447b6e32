-- The operands of an instruction, with the types that are asked of them.
pub mod Asked
pub mod Examples
-- Laws: at each moment of a run each operand of an instruction has a value, which fits its type.
pub mod Laws
-- Laws: each step is the turn of a thread that may be picked.
pub mod Picks
