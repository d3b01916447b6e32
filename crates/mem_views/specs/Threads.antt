-- The threads of a run.
use Rattle.std.specs.Prelude.{ℕ, List, [], ◌∷◌, ◌++◌, length}
use Rattle.mem_axioms.specs.declared.types.Kind.TheVariants.{NewThread}
use Rattle.mem_axioms.specs.declared.types.Event.{Event}

-- thread 0, which is there from the start, and each thread that an event makes, in that order
abbrev pub threads_of : List Event → List ℕ
threads_of [] = 0 ∷ []
threads_of (e ∷ past) = elim e.kind [ NewThread child ↦ threads_of past ++ child ∷ [] | _ ↦ threads_of past ]

-- how many threads were made, thread 0 among them
abbrev pub thread_count : List Event → ℕ
thread_count log = length (threads_of log)
