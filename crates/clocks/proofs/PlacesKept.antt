-- What is known under the numbers of events, by the places of their clocks.
use Rattle.std.proofs.Common.{◌≡◌, ◌∙◌, ℕ, ◌+◌, ◌-◌, ◌<◌, ◌==◌, Bool, true, false, cond, Option, Some, None, List, [], length, take, drop, slice_index, refl, sym, arith, inl, inr}
use Rattle.std.specs.Prelude.{nat_lt, nat_eq, if◌then◌else◌, unwrap_or, option_map}
use Rattle.std.specs.Map.{lookup}
use Rattle.std.proofs.lemmas.Bool.{cases_lt, eqb-true, eqb-false, eq-eqb, ne_eqb}
use Rattle.std.proofs.lemmas.Bool.Decides.{nat_tests}
use Rattle.std.proofs.lemmas.List.{get_or_past, get_or-take, get_or-drop, length-take}
use Rattle.std.proofs.lemmas.Map.Made.{lookup-map_values}
use Rattle.clocks.specs.Spans.{Spans, begin_in, span_at, span_of}
use Rattle.clocks.specs.EventSpans.{spans_by, ArePlaced}

-- what is known at a place, if there is one
abbrev known_at : Spans → Option ℕ → ℕ → ℕ
known_at spans None u = 0
known_at spans (Some p) u = span_at spans p u

-- what is known under a number
abbrev known_under : List (ℕ × ℕ) → Spans → ℕ → ℕ → ℕ
known_under places spans k u = slice_index (unwrap_or (lookup (nat_eq k) (spans_by places spans)) []) u

-- a part of the numbers is read from where it starts, up to where it stops
part-read : (numbers : List ℕ) (start stop u : ℕ) → slice_index (take (stop - start) (drop start numbers)) u ≡ (if nat_lt (start + u) stop then slice_index numbers (start + u) else 0)
part-read numbers start stop u = elim (cases_lt (start + u) stop) [
  | inl lt ↦ get_or-take (stop - start) (drop start numbers) u 0 (omega arith) ∙ get_or-drop start numbers u 0 ∙ grind (arith, nat_tests)
  | inr ge ↦ get_or_past (take (stop - start) (drop start numbers)) u 0 (omega (arith, length-take (stop - start) (drop start numbers))) ∙ grind (arith, nat_tests)
]

-- what is known under a number is what is known at its place
place-read : (places : List (ℕ × ℕ)) (spans : Spans) (k u : ℕ) → known_under places spans k u ≡ known_at spans (lookup (nat_eq k) places) u
place-read places spans k u = rw (lookup-map_values (span_of spans) (nat_eq k) places) (read (lookup (nat_eq k) places))
  where
    read : (o : Option ℕ) → slice_index (unwrap_or (option_map (span_of spans) o) []) u ≡ known_at spans o u
    read None = refl
    read (Some p) = part-read spans.numbers (begin_in spans.ends p) (slice_index spans.ends p) u

-- a clock that is put at the next place under a number is what is known there, and what is known under the others stays
pub place-put : (old new : List (ℕ × ℕ)) (spans more : Spans) (number : ℕ) (clock : List ℕ) → ArePlaced old spans
    → ((k : ℕ) → lookup (nat_eq k) new ≡ cond (nat_eq number k) (Some (length spans.ends)) (lookup (nat_eq k) old))
    → ((p u : ℕ) → span_at more p u ≡ (if p == length spans.ends then slice_index clock u else span_at spans p u))
    → (k u : ℕ) → known_under new more k u ≡ cond (k == number) (slice_index clock u) (known_under old spans k u)
place-put old new spans more number clock placed updated pushed k u =
    rw (place-read new more k u, place-read old spans k u, updated k) (pick (nat_eq number k) refl)
  where
    here : known_at more (Some (length spans.ends)) u ≡ slice_index clock u
    here = pushed (length spans.ends) u ∙ grind (arith, nat_tests)

    other : (o : Option ℕ) → lookup (nat_eq k) old ≡ o → known_at more o u ≡ known_at spans o u
    other None at = refl
    other (Some p) at = let below : p < length spans.ends = placed k p at in pushed p u ∙ grind (arith, nat_tests)

    pick : (b : Bool) → nat_eq number k ≡ b → known_at more (cond (nat_eq number k) (Some (length spans.ends)) (lookup (nat_eq k) old)) u ≡ cond (nat_eq k number) (slice_index clock u) (known_at spans (lookup (nat_eq k) old) u)
    pick true same = rw (same, eq-eqb k number (sym (eqb-true number k same))) here
    pick false apart = rw (apart, ne_eqb k number (λ e. eqb-false number k apart (sym e))) (other (lookup (nat_eq k) old) refl)

-- other places of the same clocks under the same numbers change nothing
pub place-same : (old new : List (ℕ × ℕ)) (spans more : Spans) → ((k : ℕ) → lookup (nat_eq k) new ≡ lookup (nat_eq k) old) → ((p u : ℕ) → span_at more p u ≡ span_at spans p u)
    → (k u : ℕ) → known_under new more k u ≡ known_under old spans k u
place-same old new spans more found same k u = rw (place-read new more k u, place-read old spans k u, found k) (stay (lookup (nat_eq k) old))
  where
    stay : (o : Option ℕ) → known_at more o u ≡ known_at spans o u
    stay None = refl
    stay (Some p) = same p u

-- under a number with a place is known what is known there
pub place-some : (places : List (ℕ × ℕ)) (spans : Spans) (k p : ℕ) → Some p ≡ lookup (nat_eq k) places → (u : ℕ) → span_at spans p u ≡ known_under places spans k u
place-some places spans k p at u = rw (place-read places spans k u, ← at) refl

-- under a number with no place nothing is known
pub place-none : (places : List (ℕ × ℕ)) (spans : Spans) (k : ℕ) → None ≡ lookup (nat_eq k) places → (u : ℕ) → 0 ≡ known_under places spans k u
place-none places spans k at u = rw (place-read places spans k u, ← at) refl
