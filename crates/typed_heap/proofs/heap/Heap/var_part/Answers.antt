use Rattle.std.proofs.Common.{Some, IsSome, subst, ap, ◌∙◌}
use Rattle.mu_values.specs.declared.scalars.Scalar.{Scalar}
use Rattle.typed_heap.specs.Places.{VarPart, move, find_place}
use Rattle.typed_heap.specs.Lemmas.LeafClasses.{element_within}
use Rattle.typed_heap.specs.Lemmas.Found.{object_there}
use Rattle.typed_heap.proofs.heap.Heap.var_part.Goals as goal

pub land-requires-clause-wanted : goal.land-requires-clause-wanted
land-requires-clause-wanted c = element_within c.args.classes.now.definitions c.requires.graph c.args.t c.in-Hybrid.fixed c.in-Hybrid.element (c.definition.ensures ∙ ap Some c.in-Hybrid.is)

pub land-requires-clause-object : goal.land-requires-clause-object
land-requires-clause-object c =
    let g = c.args.classes.now.definitions in
    let os = c.args.self.now.objects in
    let P = λ (s : Scalar). IsSome (find_place g os (move g (VarPart c.args.t)) s) in
    object_there g os (move g (VarPart c.args.t)) c.in-Place.object c.in-Place.at (subst P c.in-Place.is c.requires.there)
