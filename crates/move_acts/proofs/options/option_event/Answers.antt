use Rattle.std.proofs.Common.{arith}
use Rattle.step_forms.specs.Asked.{access_of}
use Rattle.move_acts.proofs.OptionLaws.{option_low}
use Rattle.move_acts.proofs.options.option_event.Goals as goal

pub kind_of-requires-clause-next : goal.kind_of-requires-clause-next
kind_of-requires-clause-next g c =
    option_low c.args.state.now _ (access_of c.args.access) c.args.cell c.wanted.result _ c.args.n c.option_at-chosen.result c.state.view_is c.state.invariant.0 c.wanted.ensures c.option_at-chosen.ensures
    c.state.inside.events c.state.invariant.1 (omega (arith, c.state.invariant))
