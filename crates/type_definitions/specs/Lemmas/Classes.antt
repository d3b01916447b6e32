-- Of classes: a least number is found, and a list of least ones gives the class of each.
use Rattle.std.proofs.Common.{◌≡◌, ℕ, zero, suc, ◌<◌, Bool, true, false, List, length, refl, sym, ap, arith}
use Rattle.std.specs.Prelude.{slice_index}
use Rattle.type_definitions.specs.declared.definition.TypeDef.{TypeDef}
use Rattle.type_definitions.specs.Same.{same}
use Rattle.type_definitions.specs.Class.{least, class_of}
use Rattle.type_definitions.specs.Partition.{IsLeast}

not_so : (b : Bool) → (b ≡ true → ⊥) → b ≡ false
not_so true f = absurd (f refl)
not_so false f = refl

pub least_is : (test : ℕ → Bool) (n x : ℕ) → x < n → test x ≡ true → ((b : ℕ) → b < x → test b ≡ false) → least test n ≡ x
least_is test zero x l h f = absurd (omega arith)
least_is test (suc n) zero l h f = rw h refl
least_is test (suc n) (suc x) l h f = rw (f 0 (omega arith)) (ap suc (least_is (λ k. test (suc k)) n x (omega arith) h (λ b m. f (suc b) (omega arith))))

-- least ones are the classes
pub class_is : (g : List TypeDef) (p : List ℕ) → IsLeast g p → (t : ℕ) → t < length g → slice_index p t ≡ class_of g t
class_is g p h t l =
    let q = h t l in
    let low = q.0 in
    sym (least_is (λ b. same g b t) (length g) (slice_index p t) (omega arith) q.1 (λ b m. not_so (same g b t) (λ e. let n = q.2 b (omega arith) e in absurd (omega arith))))
