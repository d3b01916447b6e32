-- Local steps, which no other thread can see. A few others are seen by no other thread either, and are not local here.
use Rattle.std.specs.Prelude.{ℕ, Bool, true, false, ◌==◌, List, [], ◌∷◌, Option, Some, None, find, if◌then◌else◌}
use Rattle.futex.specs.declared.waiters.Waiter.{Waiter}
use Rattle.mu_model.specs.Configuration.{Configuration}
use Rattle.mu_model.specs.Acts as acts
use Rattle.mu_model.specs.Acts.{Act, Program}
use Rattle.mu_model.specs.Turns.{Turn, turn_of}
use Rattle.futex.specs.Waiting.{is_of}
use Rattle.mu_model.specs.Step.{runnable}

-- a function has a body, by what `body` of the program says of it
abbrev pub has_block : Option (Option ℕ) → Bool
has_block (Some (Some block)) = true
has_block _ = false

-- of the objects of a frame: there is none
abbrev pub has_no_objects : List ℕ → Bool
has_no_objects [] = true
has_no_objects (n ∷ ns) = false

-- The act changes the frames of its thread alone: it gives values, goes to a block, calls a function that has a body, or returns from a
-- frame without objects, also from the bottom one, with which the thread ends.
abbrev pub is_local_act : Program → Turn → Act → Bool
is_local_act p u (acts.Gives vs) = true
is_local_act p u (acts.Goes g) = true
is_local_act p u (acts.Calls f vs) = has_block (p.body f)
is_local_act p u (acts.Returns vs) = has_no_objects u.top.objects
is_local_act p u _ = false

-- an instruction does such an act
abbrev pub does_local_act : Program → Turn → Option Act → Bool
does_local_act p u None = false
does_local_act p u (Some a) = is_local_act p u a

-- the turn of a thread that waits, or not
abbrev pub is_local_turn : Program → Option Waiter → Option Turn → Bool
is_local_turn p (Some w) o = false
is_local_turn p None None = false
is_local_turn p None (Some u) = does_local_act p u u.doing.act

-- The thread's next step is local: it does not wait, and its instruction does such an act.
abbrev pub is_local : Program → Configuration → ℕ → Bool
is_local p c i = is_local_turn p (find (is_of i) c.waiters) (turn_of p c i)

-- the least thread whose next step is local, where a step may be made
abbrev pub least_local : Program → Configuration → Option ℕ
least_local p c = if c.steps == c.budget then None else find (is_local p c) (runnable c)
