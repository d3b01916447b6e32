use Rattle.std.proofs.Common.{IsSome, subst, ap}
use Rattle.type_definitions.specs.Definition.{arguments}
use Rattle.mu_values.specs.declared.scalars.Scalar.{Scalar}
use Rattle.typed_heap.specs.Places.{Element, move, find_place}
use Rattle.typed_heap.specs.Lemmas.Found.{object_there, target_within}
use Rattle.typed_heap.proofs.heap.Heap.element.Goals as goal

pub leaves-leaves-requires : goal.leaves-leaves-requires
leaves-leaves-requires c = target_within c.args.classes.now.definitions c.requires.graph c.args.t c.in-Array.element _ c.definition.ensures (ap arguments c.in-Array.is)

pub land-requires-clause-wanted : goal.land-requires-clause-wanted
land-requires-clause-wanted c = target_within c.args.classes.now.definitions c.requires.graph c.args.t c.in-Array.element _ c.definition.ensures (ap arguments c.in-Array.is)

pub land-requires-clause-object : goal.land-requires-clause-object
land-requires-clause-object c =
    let g = c.args.classes.now.definitions in
    let os = c.args.self.now.objects in
    let P = λ (s : Scalar). IsSome (find_place g os (move g (Element c.args.t c.args.index)) s) in
    object_there g os (move g (Element c.args.t c.args.index)) c.in-Place.object c.in-Place.at (subst P c.in-Place.is c.requires.there)
