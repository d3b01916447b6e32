use Rattle.typed_programs.specs.Lemmas.Typed.{numbered_is_typed}
use Rattle.typed_programs.proofs.laws.numbered_bundles_are_typed.Goals as goal

pub returns : goal.returns
returns c = numbered_is_typed
