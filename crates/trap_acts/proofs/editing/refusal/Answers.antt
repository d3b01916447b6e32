use Rattle.std.proofs.Common.{ap}
use Rattle.frames.specs.Chains.{chain_of}
use Rattle.client_hooks.specs.Replies.{edit_of}
use Rattle.trap_acts.proofs.TrapViews.{edit_shown, refused_shown, goes_shown}
use Rattle.trap_acts.proofs.editing.refusal.Goals as goal

pub edit_refusal-refused-requires : goal.edit_refusal-refused-requires
edit_refusal-refused-requires g c = edit_shown c.args.code.now (edit_of c.args.edit) c.args.state.now _ c.args.wait.now (chain_of c.exchange_on_top.new.frames) c.state.view_is (ap chain_of c.exchange_on_top.ensures.frames) c.requires.there

pub returns-clause-refused : goal.returns-clause-refused
returns-clause-refused g c = refused_shown c.args.code.now (edit_of c.args.edit) c.args.state.now _ c.args.wait.now (chain_of c.exchange_on_top.new.frames) _ c.state.view_is (ap chain_of c.exchange_on_top.ensures.frames) c.edit_refusal-refused.ensures.refused

pub returns-clause-goes : goal.returns-clause-goes
returns-clause-goes g c = goes_shown c.args.code.now (edit_of c.args.edit) c.args.state.now _ c.args.wait.now (chain_of c.exchange_on_top.new.frames) _ c.state.view_is (ap chain_of c.exchange_on_top.ensures.frames) c.edit_refusal-refused.ensures.goes
