use Rattle.std.proofs.Common.{Some, ◌∙◌, ap}
use Rattle.client_hooks.proofs.laws.blank_hooks_are_auto.Goals as goal

pub returns : goal.returns
returns c = λ h p view o m. m.1 ∙ ap Some m.2
