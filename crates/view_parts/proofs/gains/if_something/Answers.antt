use Rattle.std.proofs.Common.{◌∙◌, sym, ap, ℕ, List, slice_index}
use Rattle.clocks.specs.Zeros.{zeros-at}
use Rattle.view_parts.proofs.gains.if_something.Goals as goal

pub returns-then-is_nothing : goal.returns-then-is_nothing
returns-then-is_nothing c u = sym (ap (λ (known : List ℕ). slice_index known u) (c.is_nothing.ensures.0 c.if-is_nothing.true) ∙ zeros-at 64 u)
