use Rattle.std.proofs.Common.{arith}
use Rattle.typed_heap.specs.Objects.{object_of}
use Rattle.typed_heap.specs.Heap.{hybrid_classes}
use Rattle.hail_load.specs.declared.parts.Part.TheVariants.{Hybrid}
use Rattle.hail_load.specs.Code.{code_of}
use Rattle.hail_load.specs.Answering.{store_of}
use Rattle.hail_load.specs.Lemmas.Steps.{hybrid_done, hybrid_refused, hybrid_size}
use Rattle.hail_load.proofs.Rooms.{roomy_more, kept_behind}
use Rattle.hail_load.proofs.loading.make_hybrid.Goals as goal

pub returns-in-Ok-clause-made : goal.returns-in-Ok-clause-made
returns-in-Ok-clause-made c =
    let objects = rw c.classes.ensures.same at c.in-Ok.ensures.objects in
    let left = rw c.classes.ensures.same at c.in-Ok.ensures.left in
    rw c.in_ok-name_next.ensures.made (hybrid_done (code_of c.args.loader.code.now) c.args.heap.now c.new_hybrid.new.self c.args.made.now c.args.naming.place c.args.naming.name.now c.args.t c.args.many objects left)

pub returns-in-Err-clause-made : goal.returns-in-Err-clause-made
returns-in-Err-clause-made c =
    let full = rw c.classes.ensures.same at c.new_hybrid.ensures.full in
    let enough = rw c.classes.ensures.same at c.new_hybrid.ensures.enough in
    rw c.refused.ensures (hybrid_refused (code_of c.args.loader.code.now) (store_of c.args.heap.now c.args.made.now) (store_of c.new_hybrid.new.self c.name_next.new.made) c.args.naming.place c.args.naming.name.now c.args.t c.args.many c.new_hybrid.result c.in-Err.fault _ _ c.in-Err.is full enough)

pub returns-in-Ok-clause-roomy : goal.returns-in-Ok-clause-roomy
returns-in-Ok-clause-roomy c =
    let code = code_of c.args.loader.code.now in
    let objects = rw c.classes.ensures.same at c.in-Ok.ensures.objects in
    let size = hybrid_size code.graph c.args.t c.args.many in
    roomy_more code c.args.heap.now.objects c.new_hybrid.new.self.objects c.args.made.now c.name_next.new.made c.args.naming.name.now.text (object_of code.graph (hybrid_classes code.graph c.args.t c.args.many)) (Hybrid c.args.t c.args.many)
    objects c.in_ok-name_next.ensures.made (omega (arith, size))

pub returns-in-Ok-clause-cells : goal.returns-in-Ok-clause-cells
returns-in-Ok-clause-cells c =
    let objects = rw c.classes.ensures.same at c.in-Ok.ensures.objects in
    let g = (code_of c.args.loader.code.now).graph in
    kept_behind c.args.heap.now.objects c.new_hybrid.new.self.objects (object_of g (hybrid_classes g c.args.t c.args.many)) objects
