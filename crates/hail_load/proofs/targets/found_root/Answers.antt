use Rattle.std.proofs.Common.{sym, arith}
use Rattle.hail_load.specs.Code.{code_of}
use Rattle.hail_load.proofs.Naming.{root_there}
use Rattle.hail_load.proofs.Rooms.{root_room}
use Rattle.hail_load.proofs.targets.found_root.Goals as goal

pub returns-in-Ok-clause-part : goal.returns-in-Ok-clause-part
returns-in-Ok-clause-part c = root_there (code_of c.args.code.now) c.args.made.now c.args.root.now c.in-Ok.spot c.requires.known c.requires.made (sym c.in-Ok.ensures)

pub returns-in-Ok-clause-room : goal.returns-in-Ok-clause-room
returns-in-Ok-clause-room c =
    let room = root_room (code_of c.args.code.now) c.args.heap.now.objects c.args.made.now c.args.root.now c.in-Ok.spot c.requires.roomy (sym c.in-Ok.ensures) in
    omega (arith, room, c.tell_cells.ensures)
