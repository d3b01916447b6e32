-- Clocks that are kept once, and named by numbers.
use Rattle.std.specs.Prelude.{◌≡◌, ℕ, suc, zero, ◌≤◌, length}
use Rattle.clocks.specs.Spans.{Spans, span_at}

-- What is kept under a number: nothing under 0, else the clock of that number, counted from 1.
abbrev pub kept_at : Spans → ℕ → ℕ → ℕ
kept_at clocks zero u = 0
kept_at clocks (suc p) u = span_at clocks p u

-- No clock is another than it was; there may be more.
pub record Grown (old new : Spans) : Type 0 where
  pub more : length old.ends ≤ length new.ends
  pub same : (n u : ℕ) → n ≤ length old.ends → kept_at new n u ≡ kept_at old n u
