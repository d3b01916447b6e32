use Rattle.std.proofs.Common.{◌+◌, ◌^◌, ◌<◌, subst}
use Rattle.hail_load.specs.declared.parts.Part.{Part}
use Rattle.hail_load.specs.declared.parts.Part.TheVariants.{Value, Hybrid}
use Rattle.hail_load.specs.Parts.{size_of}
use Rattle.hail_load.proofs.Rooms.{index_low, value_room, hybrid_room}
use Rattle.hail_load.proofs.indexes.follow.Goals as goal

pub value_part-requires-clause-room : goal.value_part-requires-clause-room
value_part-requires-clause-room c =
    let g = c.args.classes.now.definitions in
    value_room g c.in-Value.t c.args.spot.at c.definition.result.now c.requires.sizes c.definition.ensures
    (subst (λ (p : Part). c.args.spot.at + size_of g p < 2 ^ 32) c.in-Value.is c.requires.room)

pub hybrid_part-requires-clause-room : goal.hybrid_part-requires-clause-room
hybrid_part-requires-clause-room c =
    let g = c.args.classes.now.definitions in
    hybrid_room g c.in-Hybrid.of_type c.in-Hybrid.many c.args.spot.at c.definition-in-Hybrid.result.now c.requires.sizes c.definition-in-Hybrid.ensures
    (subst (λ (p : Part). c.args.spot.at + size_of g p < 2 ^ 32) c.in-Hybrid.is c.requires.room)

pub returns-in-Value-clause-room : goal.returns-in-Value-clause-room
returns-in-Value-clause-room c = index_low c.args.classes.now.definitions c.args.spot c.args.index.now c.value_part.result c.requires.sizes c.requires.room (rw (c.in-Value.is, c.definition.ensures) c.value_part.ensures.told)

pub returns-in-Hybrid-clause-room : goal.returns-in-Hybrid-clause-room
returns-in-Hybrid-clause-room c =
    index_low c.args.classes.now.definitions c.args.spot c.args.index.now c.hybrid_part.result c.requires.sizes c.requires.room (rw (c.in-Hybrid.is, c.definition-in-Hybrid.ensures) c.hybrid_part.ensures.told)

pub returns-in-Elements-clause-room : goal.returns-in-Elements-clause-room
returns-in-Elements-clause-room c = index_low c.args.classes.now.definitions c.args.spot c.args.index.now c.element.result c.requires.sizes c.requires.room (rw c.in-Elements.is c.element.ensures.told)
