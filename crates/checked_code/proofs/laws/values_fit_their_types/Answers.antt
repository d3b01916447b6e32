use Rattle.std.proofs.Common.{refl}
use Rattle.bundle_names.specs.Globals.{globals_of}
use Rattle.checked_code.specs.Entries.{tables_of}
use Rattle.checked_code.specs.Constants.{constants_of}
use Rattle.checked_code.specs.Lemmas.ConstantsAccepted.{accepted}
use Rattle.checked_code.specs.Lemmas.ConstantsFitting.{all_fit}
use Rattle.checked_code.proofs.laws.values_fit_their_types.Goals as goal

pub returns : goal.returns
unfolding tables_of
returns c = λ bundle h. all_fit (tables_of (globals_of bundle) bundle).types.definitions (constants_of (globals_of bundle) bundle) (accepted (globals_of bundle) bundle refl h)
