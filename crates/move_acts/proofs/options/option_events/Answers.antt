use Rattle.step_forms.specs.Asked.{access_of}
use Rattle.memory_acts.specs.Accessing.{options_of}
use Rattle.move_acts.specs.MoveEvents.{logs_of}
use Rattle.move_acts.proofs.OptionLaws.{one_more}
use Rattle.move_acts.proofs.options.option_events.Goals as goal

pub loop-n-preserved : goal.loop-n-preserved
loop-n-preserved g c =
    one_more (logs_of c.args.state.now (access_of c.args.access) c.args.cell) (options_of c.args.state.now (access_of c.args.access) c.args.cell) c.loop-n.n c.option_event-event.result c.args.events.now.items
    c.loop-n.events.items c.push.new.self.items c.option_event-event.ensures c.in_ok-push.ensures.items c.loop-n.invariant
