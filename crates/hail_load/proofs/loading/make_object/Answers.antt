use Rattle.std.proofs.Common.{arith}
use Rattle.typed_heap.specs.Objects.{leaf_classes, object_of}
use Rattle.hail_load.specs.declared.parts.Part.TheVariants.{Value}
use Rattle.hail_load.specs.Code.{code_of}
use Rattle.hail_load.proofs.Rooms.{roomy_more, kept_behind}
use Rattle.hail_load.proofs.loading.make_object.Goals as goal

pub returns-in-Ok-clause-roomy : goal.returns-in-Ok-clause-roomy
returns-in-Ok-clause-roomy c =
    let code = code_of c.args.loader.code.now in
    let objects = rw c.classes.ensures.same at c.in-Ok.ensures.objects in
    roomy_more code c.args.heap.now.objects c.new_object.new.self.objects c.args.made.now c.name_next.new.made c.args.naming.name.now.text (object_of code.graph (leaf_classes code.graph c.args.t)) (Value c.args.t)
    objects c.in_ok-name_next.ensures.made (omega arith)

pub returns-in-Ok-clause-cells : goal.returns-in-Ok-clause-cells
returns-in-Ok-clause-cells c =
    let objects = rw c.classes.ensures.same at c.in-Ok.ensures.objects in
    let g = (code_of c.args.loader.code.now).graph in
    kept_behind c.args.heap.now.objects c.new_object.new.self.objects (object_of g (leaf_classes g c.args.t)) objects
