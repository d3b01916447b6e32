use Rattle.std.proofs.Common.{arith}
use Rattle.view_parts.specs.Lemmas.CellsKept.{added-at}
use Rattle.mem_views.proofs.adding.add_at.Goals as goal

pub add-requires-clause-below : goal.add-requires-clause-below
add-requires-clause-below c = rw c.index_mut.ensures.value (c.requires.below c.index_mut.result.now)

pub add-requires-clause-named : goal.add-requires-clause-named
add-requires-clause-named c = rw c.index_mut.ensures.value (c.requires.named c.index_mut.result.now)

pub returns-clause-added : goal.returns-clause-added
returns-clause-added c =
    added-at c.args.rule c.args.clocks.now c.add.new.clocks c.args.kept.now.items c.args.place c.args.next.number c.args.next.event.now c.args.next.given.now c.index_mut.result.now c.add.new.self (let l = c.requires.there in omega (arith, l)) c.index_mut.ensures.value c.add.ensures.added c.add.ensures.room
