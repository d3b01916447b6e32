-- Lemmas of how many options there are, over the view of a state and its parts.
use Rattle.std.proofs.Common.{◌≡◌, ℕ, List, length, ap, ◌∙◌}
use Rattle.mu_values.specs.declared.scalars.Scalar.{Scalar}
use Rattle.mu_values.specs.declared.cells.CellId.{CellId}
use Rattle.mem_axioms.specs.declared.types.Wanted.{Wanted}
use Rattle.mem_axioms.specs.Objects.{initial_of}
use Rattle.mem_axioms.specs.Choices.{choices}
use Rattle.mu_model.specs.Acts.{Access}
use Rattle.mu_model.specs.Accesses.{wanted}
use Rattle.run_state.specs.Held.{Held}
use Rattle.run_state.specs.Remembering.{initials}
use Rattle.memory_acts.specs.Accessing.{options_of}

pub counted : (s v : Held) (a : Access) (cell : CellId) (w : Wanted) (known : List (List Scalar)) (n : ℕ) → v ≡ s → known ≡ initials v.objects → w ≡ wanted a
    → n ≡ length (choices v.rule (initial_of known) v.log v.thread cell w) → n ≡ length (options_of s a cell)
counted s v a cell w known n view knows wants count =
    count ∙ ap (λ known. length (choices v.rule (initial_of known) v.log v.thread cell w)) knows
    ∙ ap (λ w. length (choices v.rule (initial_of (initials v.objects)) v.log v.thread cell w)) wants ∙ ap (λ (s : Held). length (options_of s a cell)) view
