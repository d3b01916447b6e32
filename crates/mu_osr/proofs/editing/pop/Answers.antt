use Rattle.std.proofs.Common.{◌≡◌, ◌≤◌, ◌<◌, ◌+◌, arith, length, take, drop}
use Rattle.frames.specs.Chains.{frames_in}
use Rattle.mu_osr.specs.Rooms.{objects_of}
use Rattle.mu_osr.proofs.Popping.{next_fits, spare_next, cells_next, frames_next}
use Rattle.mu_osr.proofs.editing.pop.Goals as goal

pub pop_one-requires-clause-room : goal.pop_one-requires-clause-room
pop_one-requires-clause-room c = next_fits (frames_in c.args.frames.now) c.loop-i.i c.args.n c.args.cells.now.spare c.loop-i.cells.spare c.loop-i.frames c.loop-i.invariant.left (omega (arith, c.loop-i-test.true)) c.requires.room c.loop-i.invariant.spare

pub loop-i-preserved : goal.loop-i-preserved
loop-i-preserved c =
    let fs = frames_in c.args.frames.now in
    record {
      left = frames_next fs c.loop-i.i c.loop-i.frames c.pop_one.new.frames c.loop-i.invariant.left c.pop_one.ensures.frames;
      room = omega (arith, c.loop-i.invariant.room, c.pop_one.ensures.spare);
      cells = cells_next fs c.loop-i.i c.args.cells.now.members c.loop-i.cells.members c.pop_one.new.cells.members c.loop-i.frames c.loop-i.invariant.left c.loop-i.invariant.cells c.pop_one.ensures.cells;
      spare = spare_next fs c.loop-i.i c.args.cells.now.spare c.loop-i.cells.spare c.pop_one.new.cells.spare c.loop-i.frames c.loop-i.invariant.left c.loop-i.invariant.spare c.pop_one.ensures.cell_spare;
    }
