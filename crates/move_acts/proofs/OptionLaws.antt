-- The options of an access, one after the other.
use Rattle.std.proofs.Common.{◌≡◌, ℕ, zero, suc, ◌+◌, ◌<◌, ◌≤◌, List, [], ◌∷◌, ◌++◌, Option, Some, None, length, map, take, slice_get, refl, sym, ◌∙◌, ap, append_assoc, add-one, arith}
use Rattle.std.specs.Prelude.{option_map}
use Rattle.mu_values.specs.declared.scalars.Scalar.{Scalar}
use Rattle.mu_values.specs.declared.cells.CellId.{CellId}
use Rattle.mem_axioms.specs.declared.types.Wanted.{Wanted}
use Rattle.mem_axioms.specs.declared.types.Chosen.{Chosen}
use Rattle.mem_axioms.specs.Objects.{initial_of}
use Rattle.mem_axioms.specs.Choices.{choices}
use Rattle.mu_model.specs.Acts.{Access}
use Rattle.mu_model.specs.Accesses.{wanted}
use Rattle.run_state.specs.Held.{Held}
use Rattle.run_state.specs.Remembering.{initials}
use Rattle.memory_acts.specs.Accessing.{options_of}
use Rattle.memory_acts.specs.AccessLaws.{position_low}

module _ (s v : Held) (a : Access) (cell : CellId) (w : Wanted) (known : List (List Scalar)) (n : ℕ) (k : Chosen) (view : v ≡ s) (knows : known ≡ initials v.objects) (wants : w ≡ wanted a)
    (there : slice_get (choices v.rule (initial_of known) v.log v.thread cell w) n ≡ Some k) where
  option_in : slice_get (options_of s a cell) n ≡ Some k
  option_in =
      ap (λ (s : Held). slice_get (options_of s a cell) n) (sym view)
      ∙ ap (λ w. slice_get (choices v.rule (initial_of (initials v.objects)) v.log v.thread cell w) n) (sym wants)
      ∙ ap (λ known. slice_get (choices v.rule (initial_of known) v.log v.thread cell w) n) (sym knows) ∙ there

  -- another position fits its type
  pub option_low : (count : ℕ) → count ≡ length v.log → count ≤ 100000000 → k.position < 4294967295
  option_low count e short =
      let log : length v.log ≡ length s.log = ap (λ (s : Held). length s.log) view in
      let at = position_low s a cell n k option_in in
      omega (arith, at, e, log, short)

map_both : {A B : Type 0} (f : A → B) (xs ys : List A) → map f (xs ++ ys) ≡ map f xs ++ map f ys
map_both f [] ys = refl
map_both f (x ∷ xs) ys = ap (λ zs. f x ∷ zs) (map_both f xs ys)

take_next : {A B : Type 0} (f : A → Option B) (xs : List A) (n : ℕ) (e : B) → option_map f (slice_get xs n) ≡ Some (Some e) → take (suc n) (map f xs) ≡ take n (map f xs) ++ Some e ∷ []
take_next {B = B} f [] n e h = let no : None ≡ Some (Some e) = h in absurd (cc)
take_next f (x ∷ xs) zero e h = let both : Some (f x) ≡ Some (Some e) = h in let same : f x ≡ Some e = cc in ap (λ y. y ∷ []) same
take_next f (x ∷ xs) (suc n) e h = ap (λ ys. f x ∷ ys) (take_next f xs n e h)

-- one more event is kept
pub one_more : {A B : Type 0} (f : A → Option B) (xs : List A) (n : ℕ) (e : B) (first events more : List B) → option_map f (slice_get xs n) ≡ Some (Some e) → more ≡ events ++ e ∷ []
    → map (λ (e : B). Some e) events ≡ map (λ (e : B). Some e) first ++ take n (map f xs) → map (λ (e : B). Some e) more ≡ map (λ (e : B). Some e) first ++ take (n + 1) (map f xs)
one_more {B = B} f xs n e first events more h longer so_far =
    ap (map (λ (e : B). Some e)) longer ∙ map_both (λ (e : B). Some e) events (e ∷ []) ∙ ap (λ ys. ys ++ Some e ∷ []) so_far
    ∙ append_assoc (map (λ (e : B). Some e) first) (take n (map f xs)) (Some e ∷ [])
    ∙ ap (λ ys. map (λ (e : B). Some e) first ++ ys) (sym (take_next f xs n e h)) ∙ ap (λ m. map (λ (e : B). Some e) first ++ take m (map f xs)) (sym (add-one n))
