-- Nothing that a reader believes of a run rests on this, as a run is that of the bundle by its names. It is the same bundle as
-- a machine over checked code sees it, by its numbers.
use Rattle.std.specs.Prelude.{ℕ, List, Option, Some, None, map, slice_get, is_some}
use Rattle.ir_tree.specs.declared.items.Item.{Item}
use Rattle.mu_values.specs.Slots.{TypedValues}
use Rattle.checked_code.specs.declared.code.Target.{Target}
use Rattle.checked_code.specs.declared.code.Code.{Code}
use Rattle.checked_code.specs.Checking.{bundle_tables, bundle_blocks, bundle_functions}
use Rattle.typed_heap.specs.Places.{with_some}
use Rattle.frames.specs.Activations.{Value, Goal}
use Rattle.mu_model.specs.Acts.{Doing, Program}
use Rattle.mu_model.specs.Operands.{all_some}
use Rattle.mu_model.specs.Programs.{some_goal, typed_values}
use Rattle.model_numbers.specs.Sources.{goal_at}
use Rattle.model_numbers.specs.Forms.{act_at}

-- ---- what stands behind an instruction

abbrev pub optional_goal_at : List Item → List Value → Option Target → Option (Option Goal)
optional_goal_at bundle vars None = Some None
optional_goal_at bundle vars (Some t) = some_goal (goal_at bundle vars t)

abbrev pub kept_at : List ℕ → List Value → List ℕ → Option TypedValues
kept_at types vars ns = typed_values (all_some (map (slice_get types) ns)) (all_some (map (slice_get vars) ns))

-- an instruction of a block whose variables are of these classes
abbrev pub does_at : List Item → List ℕ → List Value → Code → Doing
does_at bundle types vars i =
    record { act = act_at bundle types vars i.form; exceptional = optional_goal_at bundle vars i.exceptional; kept = kept_at types vars i.keepalive }

-- ---- what the machine asks

abbrev pub numbered : List Item → Program
numbered bundle =
    record {
      doing = λ block at vars. with_some (slice_get (bundle_blocks bundle) block) (λ b. with_some (slice_get b.code at) (λ i. Some (does_at bundle b.classes vars i)));
      going_on = λ block at vars. with_some (slice_get (bundle_blocks bundle) block) (λ b. with_some (slice_get b.code at) (λ i. optional_goal_at bundle vars i.normal));
      has_handler = λ block. with_some (slice_get (bundle_blocks bundle) block) (λ b. Some (is_some b.handler));
      body = λ n. with_some (slice_get (bundle_functions bundle) n) (λ f. Some f.first);
      tables = bundle_tables bundle;
    }
