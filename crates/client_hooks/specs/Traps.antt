-- What a client is asked.
use Rattle.std.specs.Prelude.{ℕ, List, Option}
use Rattle.check_tables.specs.declared.tables.Tables.{Tables}
use Rattle.stacks.specs.Stacks.{Unbound}
use Rattle.frames.specs.Chains.{frames_in}
use Rattle.mu_model.specs.Outcomes.{View}

-- by which thread, at which watchpoint, and for values of which classes, in a run of the bundle that has these tables
pub record Trap : Type 0 where
  pub tables : Tables
  pub thread : ℕ
  pub watchpoint : Option ℕ
  pub asked : List ℕ

-- what the client sees: the trap, and the frames of the stack that it is given
abbrev pub view_of : Trap → Unbound → View
view_of t s = record { thread = t.thread; watchpoint = t.watchpoint; asked = t.asked; frames = frames_in s.frames }
