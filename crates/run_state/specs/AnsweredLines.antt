-- What an answer says that has lines, with the thread as it is left.
use Rattle.std.specs.Prelude.{◌≡◌, ◌+◌, List, true, reverse}
use Rattle.std.proofs.Common.{◌∙◌, ap, add-one}
use Rattle.mu_model.specs.declared.lines.Line.{Line}
use Rattle.mu_model.specs.declared.endings.StepEnd.TheVariants.{Went}
use Rattle.mu_model.specs.Outcomes.{Next}
use Rattle.run_state.specs.Held.{Held}
use Rattle.run_state.specs.Acting.{left_configuration, answers, went_with}
use Rattle.run_state.specs.StepLaws.{configuration_left}

pub answers_lines : (t : Held) (ls : List Line) → t.left ≡ true → answers (Went ls) (record t { steps = t.steps + 1 }) ≡ went_with t (reverse ls)
unfolding answers went_with
answers_lines t ls e =
    ap (λ c. Next (record c { lines = reverse ls })) (configuration_left (record t { steps = t.steps + 1 }) e) ∙ ap (λ n. Next (record (left_configuration (record t { steps = n })) { lines = reverse ls })) (add-one t.steps)
