use Rattle.std.proofs.Common.{◌≡◌, ◌<◌, vec_len, length, arith, sym, ◌∙◌}
use Rattle.type_classes.proofs.RowLemmas.{row_is}
use Rattle.type_classes.proofs.Partitions.{gathered_filled}
use Rattle.type_classes.proofs.refine.turn.Goals as goal

pub drain-requires-clause-filled : goal.drain-requires-clause-filled
drain-requires-clause-filled c =
    let p = c.args.partition.now in
    let m = c.in_ok-gather.ensures in
    let long : vec_len p.members ≡ length p.members.items = p.members.ok.0 in
    let l : c.args.s < length p.members.items = omega arith in
    let r = row_is p.members.items c.args.s c.index.result.now l c.index.ensures in
    gathered_filled c.args.links.definitions.now p c.args.links.predecessors.now c.deref.result.now c.deref-then-s-len.result.now c.args.s c.args.buckets.now c.gather.new.buckets
    c.deref.ensures.value (c.deref-then-s-len.ensures.value ∙ sym r)
    c.requires.fit c.requires.linked c.requires.wide m.kept m.complete m.sound c.requires.filled
