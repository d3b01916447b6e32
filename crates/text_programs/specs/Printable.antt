-- At each moment of a run the events of its log can be printed.
use Rattle.std.specs.Prelude.{◌≡◌, ◌≤◌, ◌<◌, ◌+◌, ◌^◌, ℕ, Some, All, length}
use Rattle.mu_model.specs.Acts.{Program}
use Rattle.mu_model.specs.Configuration.{Configuration}
use Rattle.mu_model.specs.Run.{Setting, first_configuration}
use Rattle.model_laws.specs.Printable.{HasFewCells, IsPrintable}
use Rattle.text_programs.specs.Laws.{OfAcceptedTexts}
use Rattle.text_programs.specs.Moments.{Reaches, OfEnteredRuns}

-- Each moment is printable where each object of the setting has `most` cells at most, and no more than `most` may be made.
abbrev pub MomentsArePrintable : Program → Setting → ℕ → Type 0
MomentsArePrintable p s function =
    (c d : Configuration) (most : ℕ) → All (HasFewCells most) s.objects → s.cells ≤ most → first_configuration p s function ≡ Some c → Reaches p c d → IsPrintable most d

abbrev pub MomentsOfTextsArePrintable : Type 0
MomentsOfTextsArePrintable = OfAcceptedTexts (OfEnteredRuns MomentsArePrintable)

-- A setting is modest where all numbers of its runs fit 32 bits: a run makes a million steps at most, the objects leave room for a million
-- more, and each of them, and what may be made, has fewer than 2^32 cells.
pub record IsModest (s : Setting) : Type 0 where
  pub budget : s.budget ≤ 1000000
  pub objects : length s.objects + 1000000 < 2 ^ 32
  pub most : ℕ
  pub few : most < 2 ^ 32
  pub sized : All (HasFewCells most) s.objects
  pub cells : s.cells ≤ most
