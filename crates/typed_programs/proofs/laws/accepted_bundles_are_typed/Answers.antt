use Rattle.typed_programs.specs.Lemmas.Running.{accepted_is_typed}
use Rattle.typed_programs.proofs.laws.accepted_bundles_are_typed.Goals as goal

pub returns : goal.returns
returns c = accepted_is_typed
