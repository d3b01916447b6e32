-- Of what a finished graph holds.
use Rattle.std.proofs.Common.{◌≡◌, ℕ, ◌<◌, ◌==◌, Bool, true, false, List, length, refl, sym, ◌∙◌}
use Rattle.std.specs.Prelude.{slice_index}
use Rattle.std.proofs.lemmas.Bool.{eqb-true, eq-eqb}
use Rattle.type_definitions.specs.declared.definition.TypeDef.{TypeDef}
use Rattle.type_definitions.specs.Same.{same, IsGraph}
use Rattle.type_definitions.specs.Lemmas.Classes.{class_is}
use Rattle.type_definitions.specs.Partition.{IsLeast}
use Rattle.type_definitions.specs.Lemmas.Proved.{decided}

both : (b c : Bool) → (b ≡ true → c ≡ true) → (c ≡ true → b ≡ true) → b ≡ c
both true c f g = sym (f refl)
both false true f g = g refl
both false false f g = refl

-- the same type is told by the classes
pub same_told : (g : List TypeDef) → IsGraph g → (class : List ℕ) → IsLeast g class → (a b : ℕ) → a < length g → b < length g → (slice_index class a == slice_index class b) ≡ same g a b
same_told g i class l a b la lb =
    let ca = class_is g class l a la in
    let cb = class_is g class l b lb in
    let e = (decided g i).equal a b la lb in
    both (slice_index class a == slice_index class b) (same g a b)
    (λ h. e.0 (sym ca ∙ eqb-true (slice_index class a) (slice_index class b) h ∙ cb))
    (λ h. eq-eqb (slice_index class a) (slice_index class b) (ca ∙ e.1 h ∙ sym cb))
