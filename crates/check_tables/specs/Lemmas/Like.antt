-- The class of a type is that of the types that are defined like it.
use Rattle.std.proofs.Common.{◌≡◌, ℕ, zero, suc, ◌<◌, Bool, true, false, List, length, Some, slice_get, refl, sym, arith}
use Rattle.std.proofs.lemmas.Option.{slice_get_within}
use Rattle.type_definitions.specs.declared.definition.TypeDef.{TypeDef}
use Rattle.type_definitions.specs.Same.{agree_at, same}
use Rattle.type_definitions.specs.Class.{least, class_of}
use Rattle.type_definitions.specs.Laws.{IsCongruence}
use Rattle.check_tables.specs.Types.{class_like}

both : (b c : Bool) → (b ≡ true → c ≡ true) → (c ≡ true → b ≡ true) → b ≡ c
both true c f g = sym (f refl)
both false true f g = g refl
both false false f g = refl

least_same : (p q : ℕ → Bool) (n : ℕ) → ((b : ℕ) → b < n → p b ≡ q b) → least p n ≡ least q n
least_same p q zero f = refl
least_same p q (suc n) f = rw (f 0 (omega arith), least_same (λ k. p (suc k)) (λ k. q (suc k)) n (λ b l. f (suc b) (omega arith))) refl

pub class_is_like : (g : List TypeDef) → IsCongruence g → (t : ℕ) (d : TypeDef) → slice_get g t ≡ Some d → class_of g t ≡ class_like g d
class_is_like g law t d e =
    least_same (λ b. same g b t) (λ b. agree_at (same g) (slice_get g b) (Some d)) (length g)
    (λ b l. let k = law b t l (slice_get_within g t d e) in
    both (same g b t) (agree_at (same g) (slice_get g b) (Some d))
    (λ h. rw e at (k.0 h))
    (λ h. k.1 (rw e h)))
