-- The lines of different steps do not mix.
use Rattle.std.specs.Prelude.{◌≡◌, ℕ, List, [], ◌∷◌, refl}
use Rattle.mu_model.specs.declared.lines.Line.{Line}
use Rattle.mu_model.specs.Configuration.{Configuration}
use Rattle.mu_model.specs.Acts.{Program}
use Rattle.mu_model.specs.Step.{threads_from, runnable, ends_or_picks, step}

-- what a step does, and which lines it writes, is the same whatever lines an earlier step wrote
abbrev pub LinesDoNotMix : Type 0
LinesDoNotMix = (p : Program) (c : Configuration) (ls : List Line) → step p (record c { lines = ls }) ≡ step p c

-- ---- the law

whatever_lines : (p : Program) (c : Configuration) (ls : List Line) (left is : List ℕ) → ends_or_picks p (record c { lines = ls }) left is ≡ ends_or_picks p c left is
whatever_lines p c ls [] is = refl
whatever_lines p c ls (t ∷ ts) [] = refl
whatever_lines p c ls (t ∷ ts) (i ∷ is) = refl

pub not_mixed : LinesDoNotMix
not_mixed p c ls = whatever_lines p c ls (threads_from 0 c.threads) (runnable c)
