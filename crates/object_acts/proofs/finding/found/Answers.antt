use Rattle.std.proofs.Common.{rules, ◌≡◌, ℤ, Some, sym, subst, to_z, of_z}
use mir.Syntax.{w128}
use Rattle.std.proofs.Math.Facts.{to_z-of_z}
use Rattle.mu_types.specs.Graph.{Table}
use Rattle.typed_heap.specs.Places as places
use Rattle.typed_heap.specs.Places.{move, find_place}
use Rattle.step_forms.specs.declared.way.Way.{Way}
use Rattle.step_forms.specs.Asked.{way_of}
use Rattle.object_acts.proofs.finding.found.Goals as goal

pub returns-in-Element : goal.returns-in-Element
returns-in-Element c =
    let types = c.classes-classes.result.now in
    let read : to_z w128 (of_z w128 c.in-Element.index) ≡ c.in-Element.index = to_z-of_z {w = w128} (search rules) in
    let own = subst (λ (i : ℤ). find_place types.definitions c.args.heap.now.objects (move types.definitions (places.Element c.in-Element.class i)) c.args.scalar ≡ Some c.element.result) read c.element.ensures in
    let there = subst (λ (w : Way). find_place types.definitions c.args.heap.now.objects (move types.definitions (way_of w)) c.args.scalar ≡ Some c.element.result) (sym c.in-Element.is) own in
    subst (λ (t : Table). find_place t.definitions c.args.heap.now.objects (move t.definitions (way_of c.args.way)) c.args.scalar ≡ Some c.element.result) c.classes-classes.ensures.same there
