-- Instructions that ask the client.
use Rattle.std.specs.Prelude.{ℕ, List, Option, Some}
use Rattle.ir_tree.specs.declared.trapping.Trapping.{Trapping}
use Rattle.ir_tree.specs.declared.trapping.Trapping.TheVariants as trappings
use Rattle.typed_heap.specs.Places.{with_some}
use Rattle.frames.specs.Activations.{Value, Goal}
use Rattle.mu_model.specs.Acts.{Act, Traps, Watches, Chooses}
use Rattle.mu_model.specs.Operands.{Scope, classes, goal_named}

-- ---- TRAP

abbrev pub trap_act : List ℕ → Option Act
trap_act cs = Some (Traps cs)

-- ---- WATCHPOINT: it goes on at the first destination where it is disabled

abbrev pub watchpoint_act : ℕ → List ℕ → Option Goal → Option Act
watchpoint_act n cs d = with_some d (λ g. Some (Watches n cs g))

-- ---- WPBRANCH: the first destination where the watchpoint is disabled, else the second

abbrev pub wpbranch_act : ℕ → Option Goal → Option Goal → Option Act
wpbranch_act n d e = with_some d (λ g. with_some e (λ h. Some (Chooses n g h)))

-- ---- by name

abbrev pub trapping_act : Scope → List Value → Trapping → Option Act
trapping_act s vars (trappings.Trap ts e k) = trap_act (classes s ts)
trapping_act s vars (trappings.Watchpoint n ts d e x k) = watchpoint_act n.number.magnitude (classes s ts) (goal_named s vars d)
trapping_act s vars (trappings.Wpbranch n d e) = wpbranch_act n.number.magnitude (goal_named s vars d) (goal_named s vars e)
