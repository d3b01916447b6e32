use Rattle.stack_moves.specs.Lemmas.EnteringViews.{thrown_handler, thrown_block, thrown_lands}
use Rattle.stack_moves.proofs.arriving.catch_at.Goals as goal

pub handler_goal-requires : goal.handler_goal-requires
handler_goal-requires c = thrown_handler c.args.code.now _ _ _ c.args.catching.frame.now c.requires.there c.requires.first c.requires.frame

pub add_exception-requires : goal.add_exception-requires
add_exception-requires c = thrown_block c.args.code.now _ _ _ _ _ c.args.catching.frame.now c.requires.there c.requires.first c.requires.frame c.in_ok-block.ensures

pub returns : goal.returns
returns c = thrown_lands c.args.code.now _ _ _ _ _ _ c.args.catching.frame.now c.requires.first c.requires.frame c.in_ok-block.ensures c.in_ok-add_exception.ensures
