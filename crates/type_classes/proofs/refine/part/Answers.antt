use Rattle.type_classes.proofs.Leads.{moved_keeps}
use Rattle.type_classes.proofs.refine.part.Goals as goal

pub returns-clause-keeps : goal.returns-clause-keeps
returns-clause-keeps c = moved_keeps c.args.definitions.now c.args.block.now c.args.touched.now c.choose.new.target c.move_all.new.block c.requires.closed c.in_ok-move_all.ensures.moved c.in_ok-move_all.ensures.rest c.requires.keeps
