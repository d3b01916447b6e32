use Rattle.std.proofs.Common.{◌≡◌, ◌+◌, ◌*◌, ◌++◌, length, ◌∙◌, ap, arith}
use Rattle.std.proofs.lemmas.List.{length-append}
use Rattle.type_definitions.specs.Leaves.{times}
use Rattle.typed_heap.specs.Lemmas.Runs.{times_length}
use Rattle.typed_heap.proofs.heap.cells_asked.Goals as goal

pub returns : goal.returns
returns c =
    let all : length (c.args.fixed.now ++ times c.args.many c.args.run.now) ≡ length c.args.fixed.now + c.args.many * length c.args.run.now = length-append c.args.fixed.now (times c.args.many c.args.run.now) ∙ ap (λ n. length c.args.fixed.now + n) (times_length c.args.many c.args.run.now) in
    rw all (omega arith)
