use Rattle.trial_text.specs.Trial.{for_each, types_text, cells_text}
use Rattle.trial_text.proofs.Appended.{last_part}
use Rattle.trial_text.proofs.trial.declarations.Goals as goal

pub returns : goal.returns
returns c = last_part _ c.args.out.now.items types_text (for_each c.args.n cells_text) _ _ c.all_cells.ensures c.in_ok-extend_from_slice.ensures.items
