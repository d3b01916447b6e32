-- What a source refers to fits as values do.
use Rattle.std.proofs.Common.{◌≡◌, ℕ, List, true, Option, Some, None, ◌↔◌}
use Rattle.std.specs.Prelude.{IsSomeAnd, slice_get}
use Rattle.std.proofs.lemmas.Bool.{eqb-true, eq-eqb}
use Rattle.type_definitions.specs.declared.definition.TypeDef.{TypeDef}
use Rattle.type_definitions.specs.declared.definition.TypeDef.TheVariants as types
use Rattle.type_definitions.specs.Class.{class_of}
use Rattle.mu_values.specs.declared.scalars.Scalar.TheVariants.{Int, Null, Object, Place, Func, Stack, Thread}
use Rattle.typed_heap.specs.Objects.{HeapObject}
use Rattle.typed_heap.specs.Fits.{fits, place_fits}
use Rattle.hail_load.specs.Fitting.{object_fits, place_in_fits, is_class}
use Rattle.hail_load.specs.FitLaws.{RefersWhereItFits}

object_told : (graph : List TypeDef) (t : ℕ) (o : Option HeapObject) → (object_fits graph t o ≡ true) ↔ IsSomeAnd o (λ (h : HeapObject). fits graph t h.leaves ≡ true)
object_told graph t None = (λ e. absurd cc, λ f. absurd f)
object_told graph t (Some h) = (λ e. e, λ e. e)

place_told : (graph : List TypeDef) (t : ℕ) (o : Option HeapObject) (at : ℕ) → (place_in_fits graph t o at ≡ true) ↔ IsSomeAnd o (λ (h : HeapObject). place_fits graph t h at ≡ true)
place_told graph t None at = (λ e. absurd cc, λ f. absurd f)
place_told graph t (Some h) at = (λ e. e, λ e. e)

class_told : (c : ℕ) (o : Option ℕ) → (is_class c o ≡ true) ↔ IsSomeAnd o (λ (g : ℕ). g ≡ c)
class_told c None = (λ e. absurd cc, λ f. absurd f)
class_told c (Some d) = (λ e. eqb-true d c e, λ e. eq-eqb d c e)

pub refers_where_it_fits : RefersWhereItFits
refers_where_it_fits c w (types.Ref t) (Object n) same found = object_told c.graph t (slice_get w.objects n)
refers_where_it_fits c w (types.Iref t) (Place n at) same found = place_told c.graph t (slice_get w.objects n) at
refers_where_it_fits c w (types.FuncRef s) (Func f) same found = rw same (class_told (class_of c.graph s) (slice_get c.signatures f))
refers_where_it_fits c w d (Int v n) same found = absurd cc
refers_where_it_fits c w d Null same found = absurd cc
refers_where_it_fits c w d (Stack k) same found = absurd cc
refers_where_it_fits c w d (Thread k) same found = absurd cc
refers_where_it_fits c w _ _ same found = (λ e. absurd cc, λ f. absurd f)
