use Rattle.std.proofs.Common.{◌<◌, IsSome, length, take, subst, sym, ◌∙◌, refl}
use Rattle.std.specs.Prelude.{pos}
use Rattle.std.proofs.lemmas.List.Elements.{All-take}
use Rattle.mu_values.specs.declared.scalars.Scalar.{Scalar}
use Rattle.typed_heap.specs.Places.{Field, move, find_place, leaves_together}
use Rattle.typed_heap.specs.Lemmas.Found.{object_there, field_of, field_found, same_offset}
use Rattle.typed_heap.proofs.heap.Heap.field.Goals as goal

pub leaves_before-before-requires : goal.leaves_before-before-requires
leaves_before-before-requires c =
    let g = c.args.classes.now.definitions in
    let h = field_of g c.args.self.now.objects c.args.t c.args.index c.in-Place.object c.in-Place.at c.definition.result.now c.args.place c.fixed_fields-fields.result.now c.requires.graph c.definition.ensures c.fixed_fields-fields.ensures c.in-Place.is c.requires.there in
    All-take (λ x. x < length g) c.args.index c.fixed_fields-fields.result.now h.within

pub bounds-fields-index : goal.bounds-fields-index
bounds-fields-index c =
    (field_of c.args.classes.now.definitions c.args.self.now.objects c.args.t c.args.index c.in-Place.object c.in-Place.at c.definition.result.now c.args.place c.fixed_fields-fields.result.now c.requires.graph c.definition.ensures c.fixed_fields-fields.ensures c.in-Place.is c.requires.there).there

pub land-requires-clause-wanted : goal.land-requires-clause-wanted
land-requires-clause-wanted c =
    let h = field_of c.args.classes.now.definitions c.args.self.now.objects c.args.t c.args.index c.in-Place.object c.in-Place.at c.definition.result.now c.args.place c.fixed_fields-fields.result.now c.requires.graph c.definition.ensures c.fixed_fields-fields.ensures c.in-Place.is c.requires.there in
    h.within c.args.index 0 h.there

pub land-requires-clause-object : goal.land-requires-clause-object
land-requires-clause-object c =
    let g = c.args.classes.now.definitions in
    let os = c.args.self.now.objects in
    let P = λ (s : Scalar). IsSome (find_place g os (move g (Field c.args.t c.args.index)) s) in
    object_there g os (move g (Field c.args.t c.args.index)) c.in-Place.object c.in-Place.at (subst P c.in-Place.is c.requires.there)

pub returns : goal.returns
returns c =
    let g = c.args.classes.now.definitions in
    let fields = c.fixed_fields-fields.result.now in
    let h = field_of g c.args.self.now.objects c.args.t c.args.index c.in-Place.object c.in-Place.at c.definition.result.now c.args.place fields c.requires.graph c.definition.ensures c.fixed_fields-fields.ensures c.in-Place.is c.requires.there in
    let sum = leaves_together g (take c.args.index fields) in
    let found = c.land.ensures c.in-Place.at (pos sum) (same_offset c.in-Place.at sum c.leaves_before-before.result c.leaves_before-before.ensures ∙ sym c.moved.ensures) in
    field_found g c.args.self.now.objects c.args.t c.args.index c.in-Place.object c.in-Place.at fields _ c.args.place c.land.result h refl c.in-Place.is found
