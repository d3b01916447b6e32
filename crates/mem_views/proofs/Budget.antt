-- Searches for each thread stay within the bound.
use Rattle.std.proofs.Common.{◌≡◌, ℕ, ◌+◌, ◌*◌, ◌≤◌, min, Bool, true, false, List, arith}
use Rattle.mu_values.specs.declared.scalars.Scalar.{Scalar}
use Rattle.mem_axioms.specs.Reads.{excluded_by}
use Rattle.std.proofs.Math.Nat.{mul-le-mul_right}
use Rattle.mem_axioms.specs.declared.types.Event.{Event}
use Rattle.mem_views.specs.Threads.{thread_count}
use Rattle.mem_views.specs.Bounds.{search_bound}
use Rattle.mem_views.specs.Differing.{floor_bound, looks_bound}

times-le : (a b e : ℕ) → a ≤ b → a * e ≤ b * e
times-le a b e l = mul-le-mul_right e l

eight : (t e : ℕ) → (8 * t + 8) * e ≡ 8 * (t * e) + 8 * e
eight t e = grind arith

-- one search for each thread
pub one-within : (log : List Event) (made d : ℕ) → made ≤ thread_count log → made * (d + 1) ≤ search_bound log d
one-within log made d l = let t = times-le made (thread_count log) (d + 1) l in let z = eight (thread_count log) (d + 1) in omega (arith, t, z)

-- four
pub four-within : (log : List Event) (made d first a b : ℕ) → made ≤ thread_count log → a ≤ first + made * (d + 1) → b ≤ a + 3 * (made * (d + 1)) → b ≤ first + floor_bound log d
four-within log made d first a b l p q = let t = times-le made (thread_count log) (d + 1) l in omega (arith, t, p, q)

-- where a value is excluded, looks at the positions that may be read, or a search
pub looks-within : (d positions : ℕ) (weak : Bool) (expected : Scalar) → looks_bound d positions (excluded_by weak expected) ≤ min positions 128 + (2 * d + 3)
looks-within d positions true expected = omega arith
looks-within d positions false expected = omega arith

-- a floor, such looks, and the values of two positions
pub reads-within : (log : List Event) (d positions looks : ℕ) → looks ≤ min positions 128 + (2 * d + 3) → (floor_bound log d + looks + 2 ≤ search_bound log d + positions) × (floor_bound log d + looks + 2 ≤ search_bound log d + 128)
reads-within log d positions looks l = let z = eight (thread_count log) (d + 1) in (omega (arith, z, l), omega (arith, z, l))
