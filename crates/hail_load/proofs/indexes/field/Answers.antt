use Rattle.std.proofs.Common.{arith}
use Rattle.hail_load.proofs.Rooms.{fields_within}
use Rattle.hail_load.proofs.indexes.field.Goals as goal

pub leaves_before-before-requires-clause-few : goal.leaves_before-before-requires-clause-few
leaves_before-before-requires-clause-few c =
    let low = fields_within c.args.classes.now.definitions c.args.fields.now c.args.n in
    grind (arith, low, c.requires.room)

pub further-requires : goal.further-requires
further-requires c =
    let low = fields_within c.args.classes.now.definitions c.args.fields.now c.args.n in
    grind (arith, low, c.requires.room, c.leaves_before-before.ensures)
