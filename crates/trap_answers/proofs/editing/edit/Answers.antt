use Rattle.frames.specs.Chains.{frames_in}
use Rattle.model_numbers.specs.Numbered.{numbered}
use Rattle.client_hooks.specs.Replies.{edit_of}
use Rattle.trap_answers.proofs.Asked.{seats_edited, objects_edited, seats_unedited}
use Rattle.trap_answers.proofs.editing.edit.Goals as goal

pub returns-clause-frames : goal.returns-clause-frames
returns-clause-frames c =
    seats_edited c.args.seats.now c.ask.new.self c.args.stack c.args.thread (numbered c.args.code.now) (edit_of c.args.edit) c.ask.new.asks.cells c.ask.ensures

pub returns-clause-objects : goal.returns-clause-objects
returns-clause-objects c =
    objects_edited c.args.seats.now c.ask.new.self c.args.stack c.args.thread (numbered c.args.code.now) (edit_of c.args.edit) c.ask.new.asks.cells c.ask.ensures

pub returns-clause-same : goal.returns-clause-same
returns-clause-same c =
    seats_unedited c.args.seats.now c.ask.new.self c.args.stack c.args.thread (numbered c.args.code.now) (edit_of c.args.edit) (frames_in c.frames.result.now) c.frames.ensures c.ask.new.asks.cells c.ask.ensures
