use Rattle.step_forms.proofs.Classes as classes
use Rattle.step_forms.proofs.laws.forms_are_there.Goals as goal

pub returns : goal.returns
returns c = classes.forms_are_there
