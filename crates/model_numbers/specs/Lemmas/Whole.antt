-- An accepted bundle is one program by name and by number.
use Rattle.std.proofs.Common.{◌≡◌, ℕ, List, None, refl, ap}
use mathlib.Core.Path.{fun_ext}
use Rattle.demands.specs.Demands.{first_unmet}
use Rattle.ir_tree.specs.declared.items.Item.{Item}
use Rattle.bundle_names.specs.Naming.{name_demands}
use Rattle.checked_code.specs.Checking.{check_demands}
use Rattle.mu_model.specs.Configuration.{Configuration}
use Rattle.mu_model.specs.Programs.{named}
use Rattle.mu_model.specs.Step.{step}
use Rattle.mu_model.specs.Run.{Setting, program_run}
use Rattle.model_numbers.specs.Numbered.{numbered}
use Rattle.model_numbers.specs.Lemmas.Places.{doing_same, going_on_same, has_handler_same}

pub programs_same : (bundle : List Item) → first_unmet (name_demands bundle) ≡ None → first_unmet (check_demands bundle) ≡ None → named bundle ≡ numbered bundle
programs_same bundle names checked =
    let doing : (named bundle).doing ≡ (numbered bundle).doing = fun_ext (λ b. fun_ext (λ at. fun_ext (λ vars. doing_same bundle names checked b at vars))) in
    let going_on : (named bundle).going_on ≡ (numbered bundle).going_on = fun_ext (λ b. fun_ext (λ at. fun_ext (λ vars. going_on_same bundle names checked b at vars))) in
    let has_handler : (named bundle).has_handler ≡ (numbered bundle).has_handler = fun_ext (λ b. has_handler_same bundle names checked b) in
    rw (doing, going_on, has_handler) refl

pub steps_same : (bundle : List Item) → first_unmet (name_demands bundle) ≡ None → first_unmet (check_demands bundle) ≡ None → (c : Configuration) →
    step (named bundle) c ≡ step (numbered bundle) c
steps_same bundle names checked c = ap (λ p. step p c) (programs_same bundle names checked)

pub runs_same : (bundle : List Item) → first_unmet (name_demands bundle) ≡ None → first_unmet (check_demands bundle) ≡ None → (s : Setting) (f : ℕ) →
    program_run (named bundle) s f ≡ program_run (numbered bundle) s f
runs_same bundle names checked s f = ap (λ p. program_run p s f) (programs_same bundle names checked)
