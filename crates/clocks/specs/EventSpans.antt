-- Clocks by the numbers of events, each kept at a place.
use Rattle.std.specs.Prelude.{◌≡◌, ℕ, ◌<◌, List, length, map, nat_eq, Some}
use Rattle.std.specs.Map.{lookup}
use Rattle.clocks.specs.Spans.{Spans, span_of}

-- each number with the clock at its place
abbrev pub spans_by : List (ℕ × ℕ) → Spans → List (ℕ × List ℕ)
spans_by places spans = map (λ place. (place.0, span_of spans place.1)) places

-- each number has a place that is there
abbrev pub ArePlaced : List (ℕ × ℕ) → Spans → Type 0
ArePlaced places spans = (k p : ℕ) → lookup (nat_eq k) places ≡ Some p → p < length spans.ends
