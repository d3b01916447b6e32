-- Objects stay whole when cells begin with other scalars.
use Rattle.std.proofs.Common.{◌≡◌, ℕ, ◌+◌, ◌≤◌, List, length, take, drop, Option, Some, None, IsSomeAnd, slice_get, refl, ◌∙◌, arith}
use Rattle.std.specs.Prelude.{◌++◌}
use Rattle.std.proofs.lemmas.List.{length-append, length-take, length-drop}
use Rattle.std.proofs.lemmas.List.Elements.{All-set}
use Rattle.checked_code.specs.Lemmas.ConstantMembers.{holds_at}
use Rattle.mu_values.specs.declared.scalars.Scalar.{Scalar}
use Rattle.typed_heap.specs.Objects.{HeapObject, replaced, filled, with_filled}
use Rattle.hail_load.specs.Answering.{AreWhole}

replaced_long : (old : List Scalar) (at : ℕ) (ss : List Scalar) → at + length ss ≤ length old → length (replaced old at ss) ≡ length old
replaced_long old at ss l =
    length-append (take at old ++ ss) (drop (at + length ss) old) ∙ omega (arith, l, length-append (take at old) ss, length-take at old, length-drop (at + length ss) old)

pub filled_whole : (os : List HeapObject) (n at : ℕ) (ss : List Scalar) → AreWhole os → IsSomeAnd (slice_get os n) (λ o. at + length ss ≤ length o.leaves) → AreWhole (with_filled os n at ss (slice_get os n))
filled_whole os n at ss h there = by (slice_get os n) refl there
  where
    by : (o : Option HeapObject) → slice_get os n ≡ o → IsSomeAnd o (λ x. at + length ss ≤ length x.leaves) → AreWhole (with_filled os n at ss o)
    by None e l = absurd l
    by (Some o) e l =
        let P = λ (x : HeapObject). length x.initial ≡ length x.leaves in
        let one : length o.initial ≡ length o.leaves = holds_at P os n o h e in
        All-set P os n (filled at ss o) (replaced_long o.initial at ss (omega (arith, l, one)) ∙ one) h
