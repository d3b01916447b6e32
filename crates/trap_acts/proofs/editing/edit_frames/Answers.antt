use Rattle.client_hooks.specs.Replies.{edit_of}
use Rattle.frames.specs.Chains.{chain_of}
use Rattle.trap_acts.proofs.TrapViews.{made_shown, seat_on, seat_frames, seat_objects, seat_same, seat_back}
use Rattle.trap_acts.proofs.editing.edit_frames.Goals as goal

pub edit-ended-requires-clause-goes : goal.edit-ended-requires-clause-goes
edit-ended-requires-clause-goes c = made_shown c.args.code.now (edit_of c.args.edit) _ _ _ _ (chain_of c.args.frames.now) c.requires.within c.exchange.ensures.seats c.requires.goes

pub exchange-requires-2 : goal.exchange-requires-2
exchange-requires-2 c =
    seat_on c.args.code.now (edit_of c.args.edit) _ _ c.edit-ended.new.seats _ _ (chain_of c.args.frames.now) c.requires.within c.exchange.ensures.seats c.requires.goes c.edit-ended.result c.edit-ended.ensures.frames c.edit-ended.ensures.same c.requires.on

pub returns-clause-seats : goal.returns-clause-seats
returns-clause-seats c =
    seat_back c.args.code.now (edit_of c.args.edit) _ _ c.edit-ended.new.seats _ _ (chain_of c.args.frames.now) c.requires.within c.exchange.ensures.seats c.requires.goes c.edit-ended.result _ (chain_of c.exchange.new.frames) c.edit-ended.ensures.frames c.edit-ended.ensures.same c.exchange-2.ensures.seats c.exchange.ensures.frames

pub returns-clause-frames : goal.returns-clause-frames
returns-clause-frames c =
    seat_frames c.args.code.now (edit_of c.args.edit) _ _ c.edit-ended.new.seats _ _ (chain_of c.args.frames.now) c.requires.within c.exchange.ensures.seats c.requires.goes c.edit-ended.result _ c.edit-ended.ensures.frames c.exchange-2.ensures.frames

pub returns-clause-objects : goal.returns-clause-objects
returns-clause-objects c =
    seat_objects c.args.code.now (edit_of c.args.edit) _ _ c.edit-ended.new.seats _ _ (chain_of c.args.frames.now) c.requires.within c.exchange.ensures.seats c.requires.goes (λ ids. ids.members) c.edit-ended.result c.edit-ended.ensures.objects

pub returns-clause-same : goal.returns-clause-same
returns-clause-same c =
    seat_same c.args.code.now (edit_of c.args.edit) _ _ c.edit-ended.new.seats _ _ (chain_of c.args.frames.now) c.requires.within c.exchange.ensures.seats c.requires.goes c.edit-ended.result (chain_of c.exchange-2.new.frames) c.edit-ended.ensures.same c.exchange-2.ensures.frames
