use Rattle.std.proofs.Common.{arith, sym, ◌∙◌, subst, List, ℕ, Vec, Global}
use Rattle.type_classes.specs.Partitions.{AreFilled, AreLinked}
use Rattle.type_classes.specs.declared.edges.Edge.{Edge}
use Rattle.type_classes.proofs.Partitions.{none_filled}
use Rattle.type_classes.proofs.refine.part_blocks.Goals as goal

pub predecessors-requires-clause-narrow : goal.predecessors-requires-clause-narrow
predecessors-requires-clause-narrow c = λ x k y a. let w = c.requires.wide x k y a in let n = c.requires.narrow in omega (arith, w, n)

pub work_off-requires-clause-linked : goal.work_off-requires-clause-linked
work_off-requires-clause-linked c = subst (λ (ps : List (Vec Edge Global)). AreLinked c.args.definitions.now ps) (sym c.deref.ensures.value)
    (record { graph = c.requires.graph; back = c.in_ok-preds.ensures.back; forward = c.in_ok-preds.ensures.forward })

pub work_off-requires-clause-filled : goal.work_off-requires-clause-filled
work_off-requires-clause-filled c = subst (λ (ps : List (Vec ℕ Global)). AreFilled c.args.definitions.now ps) (sym c.deref_mut.ensures.value) (none_filled c.args.definitions.now c.args.buckets.items c.requires.empty)

pub returns-clause-len : goal.returns-clause-len
returns-clause-len c = c.work_off.new.partition.block.ok.0 ∙ c.in_ok-work_off.ensures.sized
