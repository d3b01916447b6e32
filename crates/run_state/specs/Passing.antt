-- Lemmas of where a frame goes on.
use Rattle.std.proofs.Common.{◌≡◌, ◌+◌, false, List, ◌++◌, Option, Some, None, Result, Ok, Err, IfOk, OnOk, IsSomeAnd, option_map, sym, ◌∙◌, ap}
use Rattle.ir_tree.specs.declared.items.Item.{Item}
use Rattle.checked_code.specs.declared.code.Code.{Code}
use Rattle.checked_code.specs.declared.code.Target.{Target}
use Rattle.checked_code.specs.Answers.{code_at}
use Rattle.frames.specs.Activations.{Value, Goal, Activation}
use Rattle.frames.specs.Chains.{stands}
use Rattle.frames.specs.FrameOf.{goal_of}
use Rattle.frames.specs.declared.frame.Handler.{Handler}
use Rattle.mu_model.specs.Programs.{some_goal}
use Rattle.model_numbers.specs.Sources.{goal_at}
use Rattle.model_numbers.specs.Numbered.{optional_goal_at}
use Rattle.run_state.specs.declared.flow.Place.{Place}
use Rattle.run_state.specs.Acting.{goes_on}
use Rattle.run_state.specs.ActLaws.{goes_on_next, goes_on_arrives}

pub placed : {E : Type 0} (bundle : List Item) (f : Activation) (vs out : List Value) (i : Code) (r : Result Place E) → f.fresh ≡ false → code_at bundle f.block f.at ≡ Some i → i.normal ≡ None
    → IfOk r (λ p. p.block ≡ f.block) → IfOk r (λ p. p.at ≡ f.at + 1) → OnOk r (out ≡ f.vars ++ vs) → IfOk r (λ p. goes_on bundle f vs ≡ Some (stands f p.block p.at out))
placed bundle f vs out i (Ok p) fresh code plain block at is =
    goes_on_next bundle f vs i p.at fresh code plain at ∙ ap (λ b. Some (stands f b p.at (f.vars ++ vs))) (sym block) ∙ ap (λ o. Some (stands f p.block p.at o)) (sym is)
placed bundle f vs out i (Err e) fresh code plain block at is = tt

pub arrives_so : {E : Type 0} (bundle : List Item) (f : Activation) (vs out : List Value) (i : Code) (t : Target) (r : Result Place E) → f.fresh ≡ false → code_at bundle f.block f.at ≡ Some i → i.normal ≡ Some t
    → IfOk r (λ p. (goal_at bundle (f.vars ++ vs) t ≡ Some (record { block = p.block; values = out })) × (p.at ≡ 0)) → IfOk r (λ p. goes_on bundle f vs ≡ Some (stands f p.block p.at out))
arrives_so bundle f vs out i t (Ok p) fresh code way h = goes_on_arrives bundle f vs i t (record { block = p.block; values = out }) fresh code way h.0 ∙ ap (λ at. Some (stands f p.block at out)) (sym h.1)
arrives_so bundle f vs out i t (Err e) fresh code way h = tt

pub optional_at : (bundle : List Item) (vs ws : List Value) (o : Option Target) (t : Target) (g : Goal) → ws ≡ vs → o ≡ Some t → goal_at bundle ws t ≡ Some g → optional_goal_at bundle vs o ≡ Some (Some g)
optional_at bundle vs ws o t g same e h = ap (optional_goal_at bundle vs) e ∙ ap some_goal (ap (λ vs. goal_at bundle vs t) (sym same) ∙ h)

pub handled : (o : Option Handler) (g : Goal) → IsSomeAnd o (λ h. goal_of h ≡ g) → option_map goal_of o ≡ Some g
handled None g h = absurd h
handled (Some x) g h = ap Some h
