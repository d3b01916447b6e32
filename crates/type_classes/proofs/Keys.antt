-- Of keys: types that are the same have one.
use Rattle.std.proofs.Common.{◌≡◌, ℕ, ◌+◌, ◌*◌, ◌%◌, Bool, true, List, [], ◌∷◌, length, refl, ◌∙◌, ap, suc}
use Rattle.std.proofs.lemmas.Bool.{false≢true, and_parts}
use Rattle.type_definitions.specs.declared.definition.TypeDef.{TypeDef}
use Rattle.type_definitions.specs.Definition.{constructor, number, arguments}
use Rattle.type_definitions.specs.Same.{pairs, same, IsGraph}
use Rattle.type_definitions.specs.Lemmas.Depth.{same_meets}
use Rattle.type_definitions.specs.Partition.{Keeps}
use Rattle.type_classes.specs.Keys.{IsKeyed}

pairs_even : (r : ℕ → ℕ → Bool) (xs ys : List ℕ) → pairs r xs ys ≡ true → length xs ≡ length ys
pairs_even r [] [] h = refl
pairs_even r (x ∷ xs) (y ∷ ys) h = let p = and_parts (r x y) (pairs r xs ys) h in ap (λ n. suc n) (pairs_even r xs ys p.1)
pairs_even r [] (y ∷ ys) h = absurd (false≢true h)
pairs_even r (x ∷ xs) [] h = absurd (false≢true h)

pub keyed_keeps : (g : List TypeDef) → IsGraph g → (block : List ℕ) → IsKeyed g block → Keeps g block
keyed_keeps g i block k a b la lb h =
    let m = same_meets g i a b la lb h in
    let n = pairs_even (same g) (arguments m.one) (arguments m.other) m.args in
    k a b m.one m.other m.at_one m.at_other
    (ap (λ w. (w % 16777216 * 4294967296 + length (arguments m.one) % 4294967296) * 16 + constructor m.one) m.sized
    ∙ (ap (λ w. (number m.other % 16777216 * 4294967296 + w % 4294967296) * 16 + constructor m.one) n
    ∙ ap (λ w. (number m.other % 16777216 * 4294967296 + length (arguments m.other) % 4294967296) * 16 + w) m.kind))
