use Rattle.mu_osr.specs.Lemmas.EditLaws.{popped_fit, pushed_fit}
use Rattle.mu_osr.proofs.laws.edits_keep_frames_well_typed.Goals as goal

pub returns-clause-popped : goal.returns-clause-popped
returns-clause-popped c = popped_fit

pub returns-clause-pushed : goal.returns-clause-pushed
returns-clause-pushed c = pushed_fit
