use Rattle.std.proofs.Common.{slice_get, refl}
use Rattle.mu_values.specs.Constants.{width_of}
use Rattle.hail_load.specs.Lemmas.Steps.{number_refused}
use Rattle.hail_load.proofs.fitting.number.Goals as goal

pub returns-in-Err : goal.returns-in-Err
returns-in-Err c =
    let unmet = rw (c.literal-literal.ensures.kind, c.literal-literal.ensures.place) at c.in-Err.ensures in
    rw (c.kind_of.ensures, number_refused (width_of (slice_get c.args.classes.now.definitions c.args.t)) c.args.numeral.now c.in-Err.fault unmet) refl
