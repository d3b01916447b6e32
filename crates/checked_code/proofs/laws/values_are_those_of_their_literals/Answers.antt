use Rattle.std.proofs.Common.{refl}
use Rattle.bundle_names.specs.Globals.{globals_of}
use Rattle.checked_code.specs.Entries.{tables_of}
use Rattle.checked_code.specs.Constants.{constants_of}
use Rattle.checked_code.specs.Lemmas.ConstantMembers.{settled}
use Rattle.checked_code.specs.Lemmas.ConstantsAccepted.{accepted}
use Rattle.checked_code.proofs.laws.values_are_those_of_their_literals.Goals as goal

pub returns : goal.returns
unfolding tables_of
returns c = λ bundle h. settled (tables_of (globals_of bundle) bundle).types.definitions (constants_of (globals_of bundle) bundle) (accepted (globals_of bundle) bundle refl h)
