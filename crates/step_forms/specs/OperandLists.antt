-- Lists of operands, as a loop reads them.
use Rattle.std.specs.Prelude.{◌≡◌, ℕ, ◌+◌, ◌++◌, List, [], ◌∷◌, Option, Some, None, IsSome, IsSomeAnd, map, slice_get, refl}
use Rattle.std.proofs.Common.{take, get_or}
use Rattle.std.proofs.lemmas.List.{take_more}
use Rattle.std.proofs.lemmas.Option.{slice_get_within, get_or_from_slice_get}
use Rattle.ir_tree.specs.declared.items.Item.{Item}
use Rattle.check_tables.specs.declared.tables.Tables.{Tables}
use Rattle.checked_code.specs.declared.code.Source.{Source}
use Rattle.frames.specs.Activations.{Value}
use Rattle.model_numbers.specs.Sources.{value_at, values_at, class_at, classes_at}
use Rattle.mu_model.specs.Operands.{all_some}
use Rattle.step_forms.specs.OperandLaws.{all_some_at, all_some_take}

pub values_at-at : (bundle : List Item) (vars : List Value) (ss : List Source) (n : ℕ) (s : Source) → IsSome (values_at bundle vars ss) → slice_get ss n ≡ Some s → IsSome (value_at bundle vars s)
values_at-at bundle vars ss n s h e = all_some_at (value_at bundle vars) ss n s h e

next_value : (o : Option Value) (p : Option (List Value)) (vs ws : List Value) → IsSomeAnd o (λ v. ws ≡ vs ++ v ∷ []) → ((v : Value) → o ≡ Some v → p ≡ Some (vs ++ v ∷ [])) → p ≡ Some ws
next_value None p vs ws h e = elim h [ ]
next_value (Some v) p vs ws h e = rw h (e v refl)

pub values_at-take : (bundle : List Item) (vars : List Value) (ss : List Source) (n : ℕ) (s : Source) (vs ws : List Value) → slice_get ss n ≡ Some s → values_at bundle vars (take n ss) ≡ Some vs → IsSomeAnd (value_at bundle vars s) (λ v. ws ≡ vs ++ v ∷ []) → values_at bundle vars (take (n + 1) ss) ≡ Some ws
values_at-take bundle vars ss n s vs ws at e h = next_value (value_at bundle vars s) _ vs ws h (λ v k. all_some_take (value_at bundle vars) ss n s vs v at e k)

pub classes_at-at : (p : Tables) (types : List ℕ) (ss : List Source) (n : ℕ) (s : Source) → IsSome (classes_at p types ss) → slice_get ss n ≡ Some s → IsSome (class_at p types s)
classes_at-at p types ss n s h e = all_some_at (class_at p types) ss n s h e

pub classes_at-take : (p : Tables) (types : List ℕ) (ss : List Source) (n : ℕ) (s : Source) (cs : List ℕ) (c : ℕ) → slice_get ss n ≡ Some s → classes_at p types (take n ss) ≡ Some cs → class_at p types s ≡ Some c → classes_at p types (take (n + 1) ss) ≡ Some (cs ++ c ∷ [])
classes_at-take p types ss n s cs c at e h = all_some_take (class_at p types) ss n s cs c at e h

-- variables by number: their classes, and their values
pub numbers-at : (types : List ℕ) (ns : List ℕ) (n k : ℕ) → IsSome (all_some (map (slice_get types) ns)) → slice_get ns n ≡ Some k → IsSome (slice_get types k)
numbers-at types ns n k h e = all_some_at (slice_get types) ns n k h e

pub numbers-take : (types : List ℕ) (ns : List ℕ) (n k : ℕ) (cs : List ℕ) (c : ℕ) → slice_get ns n ≡ Some k → all_some (map (slice_get types) (take n ns)) ≡ Some cs → slice_get types k ≡ Some c → all_some (map (slice_get types) (take (n + 1) ns)) ≡ Some (cs ++ c ∷ [])
numbers-take types ns n k cs c at e h = all_some_take (slice_get types) ns n k cs c at e h

pub numbered-at : (vars : List Value) (ns : List ℕ) (n k : ℕ) → IsSome (all_some (map (slice_get vars) ns)) → slice_get ns n ≡ Some k → IsSome (slice_get vars k)
numbered-at vars ns n k h e = all_some_at (slice_get vars) ns n k h e

pub numbered-take : (vars : List Value) (ns : List ℕ) (n k : ℕ) (vs : List Value) (v : Value) → slice_get ns n ≡ Some k → all_some (map (slice_get vars) (take n ns)) ≡ Some vs → slice_get vars k ≡ Some v → all_some (map (slice_get vars) (take (n + 1) ns)) ≡ Some (vs ++ v ∷ [])
numbered-take vars ns n k vs v at e h = all_some_take (slice_get vars) ns n k vs v at e h

-- a list, as a loop copies it
pub copied-take : (cs ds : List ℕ) (n c : ℕ) → slice_get cs n ≡ Some c → ds ≡ take n cs → ds ++ c ∷ [] ≡ take (n + 1) cs
copied-take cs ds n c e h =
    let one : take (n + 1) cs ≡ take n cs ++ get_or cs n c ∷ [] = take_more cs n c (slice_get_within cs n c e) in
    let same : get_or cs n c ≡ c = get_or_from_slice_get cs n c c e in
    rw (one, same, h) refl

pub ruleset values = (values_at-at, values_at-take)

pub ruleset classes = (classes_at-at, classes_at-take)

pub ruleset numbers = (numbers-at, numbers-take)

pub ruleset numbered = (numbered-at, numbered-take)

pub ruleset copies = (copied-take)
