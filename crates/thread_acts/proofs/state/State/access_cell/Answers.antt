use Rattle.std.proofs.Common.{◌∙◌, ap, arith}
use Rattle.step_forms.specs.Asked.{access_of}
use Rattle.run_state.specs.Held.{Held}
use Rattle.run_state.specs.Hand.{hand_made}
use Rattle.memory_acts.specs.AccessLaws.{kind_makes}
use Rattle.memory_acts.specs.AccessViews.{low, kind_there, goes_there, fits, room, picked}
use Rattle.thread_acts.proofs.state.State.access_cell.Goals as goal

pub kind_of-requires-clause-next : goal.kind_of-requires-clause-next
kind_of-requires-clause-next g c = low c.args.code.now c.args.self.now _ _ c.args.cell _ _ _ _ (record { view = c.self.view_is; knows = c.self.invariant.0; wants = c.wanted.ensures; count = c.option_picked-options.ensures.count; choice = c.option_picked-options.ensures.option }) c.self.inside.events c.self.invariant.1 (omega (arith, c.self.invariant))

pub kind_of-requires-clause-there : goal.kind_of-requires-clause-there
kind_of-requires-clause-there g c = kind_there c.args.code.now c.args.self.now _ _ c.args.cell _ _ _ _ (record { view = c.self.view_is; knows = c.self.invariant.0; wants = c.wanted.ensures; count = c.option_picked-options.ensures.count; choice = c.option_picked-options.ensures.option }) c.requires.there

pub log_on-requires-clause-there : goal.log_on-requires-clause-there
log_on-requires-clause-there g c = goes_there c.args.code.now c.args.self.now _ _ c.args.cell _ _ _ _ (record { view = c.self.view_is; knows = c.self.invariant.0; wants = c.wanted.ensures; count = c.option_picked-options.ensures.count; choice = c.option_picked-options.ensures.option }) _ c.in_ok-write_results.ensures c.requires.there

pub log_on-requires-clause-fits : goal.log_on-requires-clause-fits
log_on-requires-clause-fits g c = fits c.args.code.now c.args.self.now _ _ c.args.cell _ _ _ _ (record { view = c.self.view_is; knows = c.self.invariant.0; wants = c.wanted.ensures; count = c.option_picked-options.ensures.count; choice = c.option_picked-options.ensures.option }) _ (hand_made _ _ _ _ _ c.self.invariant.5 (ap (λ (s : Held). s.left) c.self.view_is ∙ c.requires.left)) c.requires.cell c.kind_of.ensures

pub log_on-requires-clause-cell : goal.log_on-requires-clause-cell
log_on-requires-clause-cell g c = room c.args.code.now c.args.self.now _ _ c.args.cell _ _ _ _ (record { view = c.self.view_is; knows = c.self.invariant.0; wants = c.wanted.ensures; count = c.option_picked-options.ensures.count; choice = c.option_picked-options.ensures.option }) _ (hand_made _ _ _ _ _ c.self.invariant.5 (ap (λ (s : Held). s.left) c.self.view_is ∙ c.requires.left)) c.requires.cell c.kind_of.ensures

pub returns-clause-ok : goal.returns-clause-ok
returns-clause-ok g c =
    picked c.args.code.now c.args.self.now _ _ c.args.cell _ _ _ _ (record { view = c.self.view_is; knows = c.self.invariant.0; wants = c.wanted.ensures; count = c.option_picked-options.ensures.count; choice = c.option_picked-options.ensures.option }) c.log_on.result _ _ _ c.requires.there c.kind_of.ensures c.in_ok-write_results.ensures c.log_on.ensures.ok

pub log_on-requires-clause-makes : goal.log_on-requires-clause-makes
log_on-requires-clause-makes g c = kind_makes c.self.inside.thread c.args.cell (access_of c.args.access) c.option_picked-options.result.1 _ c.kind_of.ensures

pub option_picked-options-requires-clause-thread : goal.option_picked-options-requires-clause-thread
option_picked-options-requires-clause-thread g c = hand_made _ _ _ _ _ c.self.invariant.5 (ap (λ (s : Held). s.left) c.self.view_is ∙ c.requires.left)
