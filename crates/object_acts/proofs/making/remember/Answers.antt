use Rattle.run_state.specs.Remembering.{newest_known, after_ok}
use Rattle.object_acts.proofs.making.remember.Goals as goal

pub returns-clause-ok : goal.returns-clause-ok
returns-clause-ok g c =
    after_ok c.add_object.result (newest_known c.args.newest.heap.now.objects c.args.newest.number c.in_ok-initial_scalars.field-0.members _ _ c.requires.known c.requires.number c.in_ok-initial_scalars.ensures) c.add_object.ensures.added
