-- The class of a written type, and the classes of the references to one.
use Rattle.std.proofs.Common.{◌≡◌, ℕ, ◌<◌, Bool, true, false, List, [], ◌∷◌, Option, Some, None, IsSomeAnd, nat_lt, slice_get, length, if◌then◌else◌, refl, sym, ◌∙◌, ap, subst, arith}
use Rattle.std.specs.List.{All}
use Rattle.std.proofs.lemmas.List.Elements.{All-head}
use Rattle.std.proofs.lemmas.Option.{slice_get_within}
use Rattle.type_definitions.specs.declared.definition.TypeDef.{TypeDef}
use Rattle.type_definitions.specs.declared.definition.TypeDef.TheVariants.{Ref, Iref, FuncRef}
use Rattle.type_definitions.specs.Definition.{arguments}
use Rattle.type_definitions.specs.Same.{agree_at, same, IsGraph}
use Rattle.type_definitions.specs.Class.{class_of}
use Rattle.type_definitions.specs.Laws.{IsFinite}
use Rattle.type_definitions.specs.Scalars.{is_scalar}
use Rattle.type_definitions.specs.Lemmas.Depth.{args_within}
use Rattle.type_definitions.specs.Lemmas.Proved.{congruence}
use Rattle.mu_types.specs.Graph.{Table}
use Rattle.check_tables.specs.Types.{class_like, definition_at, class_at, is_type_there, is_sig, ref_at, iref_at, funcref_at}
use Rattle.check_tables.specs.Lemmas.Like.{class_is_like}
use Rattle.bundle_laws.specs.Lemmas.Bodies.{some_is}
use Rattle.bundle_facts.specs.Facts.{IsClassOf, IsClassAt, AreShaped, RefersTo}
use Rattle.bundle_facts.specs.Lemmas.Told.{ref_told, iref_told, funcref_told}
use Rattle.bundle_facts.specs.Lemmas.Shapes.{class_shape, class_within, class_own, is_class, leaves_of_parts}
use Rattle.bundle_facts.specs.Lemmas.Completed.{StandsIn, IsComplete, is_below}

-- ---- classes of written types

-- what is written under a number whose class is c
pub record WrittenClass (p : Table) (t c : ℕ) : Type 0 where
  pub written : t < p.written
  pub within : t < length p.definitions
  pub class : class_of p.definitions t ≡ c
  pub definition : definition_at p t ≡ slice_get p.definitions t

pub written_class : (p : Table) (t c : ℕ) → IsComplete p → class_at p t ≡ Some c → WrittenClass p t c
written_class p t c known h = by (nat_lt t p.written) refl h
  where
    by : (b : Bool) → nat_lt t p.written ≡ b → (if b then Some (class_of p.definitions t) else None) ≡ Some c → WrittenClass p t c
    by false e k = cc
    by true e k =
        let low : t < p.written = is_below t p.written e in
        record { written = low; within = omega (arith, low, known.written); class = some_is (class_of p.definitions t) c k; definition = rw e refl }

pub class_at_is : (p : Table) (t c : ℕ) → IsComplete p → class_at p t ≡ Some c → IsClassAt p t c
class_at_is p t c known h =
    let w : WrittenClass p t c = written_class p t c known h in
    let class : IsClassOf p.definitions t c = subst (λ (x : ℕ). IsClassOf p.definitions t x) w.class (is_class p.definitions known.graph t w.within) in
    record {
      class = class;
      definition = w.definition;
      agrees = subst (λ (o : Option TypeDef). agree_at (same p.definitions) o (slice_get p.definitions c) ≡ true) (sym w.definition) class.agrees;
    }

pub shape_at : (p : Table) (t c : ℕ) (d : TypeDef) → IsComplete p → class_at p t ≡ Some c → definition_at p t ≡ Some d → IsSomeAnd (slice_get p.definitions c) (AreShaped p.definitions d)
shape_at p t c d known h e =
    let w : WrittenClass p t c = written_class p t c known h in
    let own : class_of p.definitions t ≡ class_of p.definitions c = w.class ∙ sym (subst (λ (x : ℕ). class_of p.definitions x ≡ x) w.class (class_own p.definitions known.graph t w.within)) in
    let within : c < length p.definitions = subst (λ (x : ℕ). x < length p.definitions) w.class (class_within p.definitions known.graph t w.within) in
    class_shape p.definitions known.graph t c d w.within within own (sym w.definition ∙ e)

-- ---- references

-- a definition with one argument, which a shape tells
pub record IsReference (g : List TypeDef) (reference : ℕ → TypeDef) : Type 0 where
  pub one : (t : ℕ) → arguments (reference t) ≡ t ∷ []
  pub scalar : (t : ℕ) → is_scalar (Some (reference t)) ≡ true
  pub told : (t : ℕ) (o : Option TypeDef) → IsSomeAnd o (AreShaped g (reference t)) → (k : ℕ) × (o ≡ Some (reference k)) × (class_of g k ≡ class_of g t)

pub ref_is : (g : List TypeDef) → IsReference g Ref
ref_is g = record { one = λ t. refl; scalar = λ t. refl; told = ref_told g }

iref_is : (g : List TypeDef) → IsReference g Iref
iref_is g = record { one = λ t. refl; scalar = λ t. refl; told = iref_told g }

funcref_is : (g : List TypeDef) → IsReference g FuncRef
funcref_is g = record { one = λ t. refl; scalar = λ t. refl; told = funcref_told g }

target_within : (g : List TypeDef) → IsGraph g → (reference : ℕ → TypeDef) → IsReference g reference → (at t : ℕ) → slice_get g at ≡ Some (reference t) → t < length g
target_within g i reference r at t e =
    let P = λ (y : ℕ). y < length g in
    All-head P t [] (subst (λ (ys : List ℕ). All P ys) (r.one t) (args_within g i at (reference t) e))

-- the class of the references to a type
pub refers : (g : List TypeDef) → IsGraph g → IsFinite g → (reference : ℕ → TypeDef) → IsReference g reference → (t : ℕ) → StandsIn g (reference t) → RefersTo g (class_like g (reference t)) reference t
refers g i f reference r t s =
    let within : s.at < length g = slice_get_within g s.at (reference t) s.there in
    let like : class_of g s.at ≡ class_like g (reference t) = class_is_like g (congruence g i) s.at (reference t) s.there in
    let own : class_of g (class_of g s.at) ≡ class_of g s.at = class_own g i s.at within in
    let told = r.told t (slice_get g (class_of g s.at)) (class_shape g i s.at (class_of g s.at) (reference t) within (class_within g i s.at within) (sym own) s.there) in
    let all : RefersTo g (class_of g s.at) reference t = record {
      target = told.0;
      definition = told.1;
      within = target_within g i reference r (class_of g s.at) told.0 told.1;
      written = target_within g i reference r s.at t s.there;
      class = told.2;
      own = own;
      leaf = (leaves_of_parts g i f).scalar (class_of g s.at) own (ap is_scalar told.1 ∙ r.scalar told.0);
    } in
    subst (λ (c : ℕ). RefersTo g c reference t) like all

told_there : (b : Bool) (x c : ℕ) → (if b then Some x else None) ≡ Some c → (b ≡ true) × (x ≡ c)
told_there true x c h = (refl, some_is x c h)
told_there false x c h = cc

pub ref_refers : (p : Table) (t c : ℕ) → IsComplete p → ref_at p t ≡ Some c → RefersTo p.definitions c Ref t
ref_refers p t c known h =
    let told = told_there (is_type_there (definition_at p t)) (class_like p.definitions (Ref t)) c h in
    subst (λ (x : ℕ). RefersTo p.definitions x Ref t) told.1 (refers p.definitions known.graph known.finite Ref (ref_is p.definitions) t (known.ref t told.0))

pub iref_refers : (p : Table) (t c : ℕ) → IsComplete p → iref_at p t ≡ Some c → RefersTo p.definitions c Iref t
iref_refers p t c known h =
    let told = told_there (is_type_there (definition_at p t)) (class_like p.definitions (Iref t)) c h in
    subst (λ (x : ℕ). RefersTo p.definitions x Iref t) told.1 (refers p.definitions known.graph known.finite Iref (iref_is p.definitions) t (known.iref t told.0))

pub funcref_refers : (p : Table) (t c : ℕ) → IsComplete p → funcref_at p t ≡ Some c → RefersTo p.definitions c FuncRef t
funcref_refers p t c known h =
    let told = told_there (is_sig (definition_at p t)) (class_like p.definitions (FuncRef t)) c h in
    subst (λ (x : ℕ). RefersTo p.definitions x FuncRef t) told.1 (refers p.definitions known.graph known.finite FuncRef (funcref_is p.definitions) t (known.funcref t told.0))
