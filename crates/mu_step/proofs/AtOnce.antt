-- Lemmas of steps that are made at once.
use Rattle.std.proofs.Common.{◌≡◌, ◌≢◌, ℕ, List, [], Option, Some, None, IfSome, slice_get, sym, ◌∙◌, ap}
use Rattle.ir_tree.specs.declared.items.Item.{Item}
use Rattle.checked_code.specs.declared.code.Code.{Code}
use Rattle.checked_code.specs.declared.blocks.BlockCode.{BlockCode}
use Rattle.checked_code.specs.Checking.{bundle_blocks}
use Rattle.frames.specs.Activations.{Value, Activation}
use Rattle.mu_model.specs.declared.endings.StepEnd.TheVariants.{Went}
use Rattle.mu_model.specs.Acts.{Act}
use Rattle.mu_model.specs.Clients.{Client}
use Rattle.mu_model.specs.Outcomes.{Stuck}
use Rattle.mu_model.specs.Step.{step}
use Rattle.model_numbers.specs.Forms.{act_at}
use Rattle.model_numbers.specs.Numbered.{numbered}
use Rattle.step_forms.specs.CaseRows.{cases_of, cases_in, cases_at}
use Rattle.client_hooks.specs.Ways.{Way}
use Rattle.run_state.specs.Held.{Held, configuration}
use Rattle.run_state.specs.Outcome.{outcome_of}
use Rattle.run_state.specs.Acting.{answers, acting, stepping, told}
use Rattle.run_state.specs.StepLaws.{code_is}
use Rattle.mu_step.proofs.AskViews.{AsksAt}

-- what is decided at once is what the instruction asks
pub asked_at_once : (bundle : List Item) (s : Held) (f : Activation) (b : BlockCode) (i j : Code) (cs : List ℕ) (vs : List Value) (o : Option Act) → AsksAt bundle s f b i → i ≡ j → cs ≡ b.classes → vs ≡ f.vars
    → IfSome o (λ a. act_at bundle cs vs j.form ≡ Some a) → IfSome o (λ a. stepping bundle s ≡ acting bundle s a)
asked_at_once bundle s f b i j cs vs (Some a) at same classes vars h =
    at.acts a (ap (λ cs. act_at bundle cs f.vars i.form) (sym classes) ∙ ap (λ vs. act_at bundle cs vs i.form) (sym vars) ∙ ap (λ (i : Code). act_at bundle cs vs i.form) same ∙ h)
asked_at_once bundle s f b i j cs vs None at same classes vars h = tt

-- the cases of what stands at a place
pub cases_stand : (bundle : List Item) (s : Held) (f : Activation) (b : BlockCode) (i j : Code) → AsksAt bundle s f b i → i ≡ j → slice_get (bundle_blocks bundle) f.block ≡ Some b → cases_of j.form ≡ cases_at bundle f.block f.at
cases_stand bundle s f b i j at same there = sym (ap cases_in (code_is bundle f.block f.at b i there at.there) ∙ ap (λ (i : Code). cases_of i.form) same)

-- an act that the step is has a rule where the step has one
pub acting_at_once : (bundle : List Item) (s : Held) (a : Act) → stepping bundle s ≢ Stuck → stepping bundle s ≡ acting bundle s a → acting bundle s a ≢ Stuck
acting_at_once bundle s a h is = λ e. h (is ∙ e)

-- a step that was made at once, once the picks are taken
pub settled_at_once : (how : Way) (bundle : List Item) (k l : Client) (s t u v : Held) → l ≡ k → step (numbered bundle) (configuration s) ≡ stepping bundle t → answers (Went []) u ≡ told how bundle l (stepping bundle t) → configuration v ≡ configuration u
    → outcome_of (Went []) (configuration v) ≡ told how bundle k (step (numbered bundle) (configuration s))
unfolding answers
settled_at_once how bundle k l s t u v client same is taken =
    ap (outcome_of (Went [])) taken ∙ is ∙ ap (λ k. told how bundle k (stepping bundle t)) client ∙ ap (told how bundle k) (sym same)
