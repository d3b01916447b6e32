use Rattle.std.proofs.Common.{◌≡◌, IsSome, Some, length, slice_get, ◌∙◌, ap, subst}
use Rattle.std.specs.Prelude.{Option}
use Rattle.type_definitions.specs.declared.definition.TypeDef.{TypeDef}
use Rattle.type_definitions.specs.declared.definition.TypeDef.TheVariants.{Iref}
use Rattle.type_definitions.specs.Definition.{arguments}
use Rattle.mu_values.specs.declared.scalars.Scalar.{Scalar}
use Rattle.mu_values.specs.declared.scalars.Scalar.TheVariants.{Place}
use Rattle.typed_heap.specs.Heap.{HeapContents}
use Rattle.typed_heap.specs.Places.{cast}
use Rattle.typed_heap.specs.Lemmas.Found.{cast_there, target_within}
use Rattle.typed_heap.proofs.heap.Heap.cast.Goals as goal

pub fits-fits-requires-clause-t : goal.fits-fits-requires-clause-t
fits-fits-requires-clause-t c = target_within c.args.classes.now.definitions c.requires.graph c.args.target c.in-Object-Ref.t _ c.definition.ensures (ap arguments c.in-Object-Ref.is-1)

pub leaves-requires-in-Place-Iref : goal.leaves-requires-in-Place-Iref
leaves-requires-in-Place-Iref c =
    let g = c.args.classes.now.definitions in
    let d : slice_get g c.args.target ≡ Some (Iref c.in-Place-Iref.t) = c.definition.ensures ∙ ap Some c.in-Place-Iref.is-1 in
    let P : Option TypeDef → Scalar → Type 0 = λ o s. IsSome (cast g c.args.self.now.objects o s) in
    let there : P (Some (Iref c.in-Place-Iref.t)) (Place c.in-Place-Iref.object c.in-Place-Iref.at) = subst (λ s. P (Some (Iref c.in-Place-Iref.t)) s) c.in-Place-Iref.is-0 (subst (λ o. P o c.args.value) d c.requires.there) in
    let l = cast_there g c.args.self.now.objects c.in-Place-Iref.t c.in-Place-Iref.object c.in-Place-Iref.at there in
    rw (ap (λ (v : HeapContents). length v.objects) c.self.view_is) l

pub fits_at-fits-requires-clause-t : goal.fits_at-fits-requires-clause-t
fits_at-fits-requires-clause-t c = target_within c.args.classes.now.definitions c.requires.graph c.args.target c.in-Place-Iref.t _ c.definition.ensures (ap arguments c.in-Place-Iref.is-1)
