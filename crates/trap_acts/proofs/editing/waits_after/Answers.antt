use Rattle.std.proofs.Common.{sym, subst}
use Rattle.frames.specs.Chains.{StoredChain, frames_in}
use Rattle.client_hooks.specs.Replies.{edit_of}
use Rattle.stack_moves.specs.Editing.{IsMade}
use Rattle.trap_acts.proofs.editing.waits_after.Goals as goal

pub after-requires : goal.after-requires
after-requires c = subst (λ (f : StoredChain). IsMade c.args.code.now (edit_of c.args.edit) (frames_in f)) (sym c.exchange_on_top.ensures.frames) c.requires
