-- Nothing that a reader believes of a run rests on this. It is what a machine keeps of a configuration, where the frames of one
-- thread may be in hand.
use Rattle.std.specs.Prelude.{ℕ, Bool, List, [], drop, slice_set, if◌then◌else◌}
use Rattle.typed_heap.specs.Objects.{HeapObject}
use Rattle.frames.specs.Chains.{Chain, frames_of}
use Rattle.mem_axioms.specs.declared.types.Rule.{Rule}
use Rattle.mem_axioms.specs.declared.types.Event.{Event}
use Rattle.mu_model.specs.Clients.{Client}
use Rattle.mu_model.specs.Configuration.{Stack, Active, Configuration}
use Rattle.seats.specs.Seats.{Seats}

pub record Held : Type 0 where
  -- the thread in hand, its stack, and its frames; whether there is one
  pub thread : ℕ
  pub stack : ℕ
  pub frames : Chain
  pub left : Bool
  -- the threads, the stacks and the waiters; for the stack of the thread in hand something else may stand there
  pub seats : Seats
  pub objects : List HeapObject
  pub log : List Event
  -- the watchpoints that are enabled, and the client
  pub watched : List ℕ
  pub client : Client
  -- the schedule, and how many numbers of it this step has looked at
  pub picks : List ℕ
  pub skip : ℕ
  pub rule : Rule
  -- how many cells may still be made, how many steps were made, and how many may be
  pub cells : ℕ
  pub steps : ℕ
  pub budget : ℕ

-- what is left of the schedule
abbrev pub ahead : Held → List ℕ
ahead s = drop s.skip s.picks

-- the stacks, with the frames in hand
abbrev pub held_stacks : Held → List Stack
held_stacks s = slice_set s.seats.stacks s.stack (Active s.thread (frames_of s.frames))

-- the configuration with these stacks
abbrev pub configured : Held → List Stack → Configuration
configured s stacks =
    record {
      threads = s.seats.threads;
      stacks = stacks;
      objects = s.objects;
      log = s.log;
      watched = s.watched;
      waiters = s.seats.waiters;
      client = s.client;
      picks = ahead s;
      cells = s.cells;
      steps = s.steps;
      budget = s.budget;
      rule = s.rule;
      lines = [];
    }

abbrev pub configuration : Held → Configuration
configuration s = configured s (if s.left then held_stacks s else s.seats.stacks)
