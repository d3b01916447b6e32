use Rattle.std.proofs.Common.{ap}
use Rattle.frames.specs.Chains.{chain_of, frames_of}
use Rattle.client_hooks.specs.Replies.{edit_of}
use Rattle.trap_acts.proofs.TrapViews.{edit_made, looks_there, looks_so}
use Rattle.trap_acts.proofs.replying.look_back.Goals as goal

pub after-edited-requires : goal.after-edited-requires
after-edited-requires g c = edit_made c.args.code.now (edit_of c.args.edit) c.args.state.now _ c.args.wait.now (chain_of c.exchange_on_top.new.frames) c.state.view_is (ap chain_of c.exchange_on_top.ensures.frames) c.requires.edited

pub prepare-found-requires : goal.prepare-found-requires
prepare-found-requires g c = looks_there c.args.code.now (edit_of c.args.edit) c.args.state.now _ c.args.wait.now (chain_of c.exchange_on_top.new.frames) (frames_of c.after-edited.result) _ c.state.view_is (ap chain_of c.exchange_on_top.ensures.frames) c.after-edited.ensures c.requires.there

pub returns-clause-is : goal.returns-clause-is
returns-clause-is g c =
    looks_so c.args.code.now (edit_of c.args.edit) c.args.state.now _ c.args.wait.now (chain_of c.exchange_on_top.new.frames) (frames_of c.after-edited.result) _ _ c.prepare-found.result c.state.view_is (ap chain_of c.exchange_on_top.ensures.frames) c.after-edited.ensures c.prepare-found.ensures.is
