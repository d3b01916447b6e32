use Rattle.step_forms.specs.Asked.{lists_of}
use Rattle.step_forms.proofs.deciding.compute.Goals as goal

pub returns-in-Refcast : goal.returns-in-Refcast
returns-in-Refcast c = rw c.in-Refcast.is (c.refcast.ensures (lists_of c.args.room.now))
