-- Watchpoints with a flag each.
use Rattle.std.specs.Prelude.{◌≡◌, ℕ, Bool, true, List, map, filter}
use Rattle.std.specs.List.{AllByRecursion}
use Rattle.mu_model.specs.Traps.{is_watched}

-- The watchpoints that are enabled, in rising order, and those that are known: a change of one of these is never refused.
pub record Watching : Type 0 where
  pub enabled : List ℕ
  pub known : List ℕ

-- the numbers whose flag is true
abbrev pub enabled_in : List (ℕ × Bool) → List ℕ
enabled_in es = map (λ e. e.0) (filter (λ e. e.1) es)

-- each of these changes is of a watchpoint that is known
abbrev pub AreKnown : List (ℕ × Bool) → List ℕ → Type 0
AreKnown ws known = AllByRecursion (λ w. is_watched w.0 known ≡ true) ws
