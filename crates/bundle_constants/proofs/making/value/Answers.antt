use Rattle.std.proofs.Common.{◌≡◌, List, length, refl, subst, IfOk}
use Rattle.std.proofs.lemmas.Option.{slice_get_read}
use Rattle.mu_values.specs.declared.scalars.Scalar.{Scalar}
use Rattle.mu_values.specs.Constants.{value_at}
use Rattle.bundle_constants.proofs.Passes.{type_fits, width_fits, value_is}
use Rattle.bundle_constants.proofs.making.value.Goals as goal

pub make_const-requires-clause-t : goal.make_const-requires-clause-t
make_const-requires-clause-t c =
    let constants = c.args.constants.now in
    type_fits c.args.classes.now.definitions constants c.requires.lawful c.args.n c.index-constants-n.result
    (slice_get_read constants (length constants) c.args.n c.index-constants-n.result refl c.requires.n c.index-constants-n.is)

pub make_const-requires-clause-width : goal.make_const-requires-clause-width
make_const-requires-clause-width c = width_fits c.args.classes.now.definitions c.args.constants.now c.requires.lawful c.index-constants-n.result.of_type

pub returns : goal.returns
returns c =
    let constants = c.args.constants.now in
    subst (λ (x : List Scalar). IfOk c.make_const.result (λ v. v.members ≡ x))
    (value_is c.args.classes.now.definitions constants (value_at c.args.made.now) c.args.n c.index-constants-n.result
    (slice_get_read constants (length constants) c.args.n c.index-constants-n.result refl c.requires.n c.index-constants-n.is))
    c.make_const.ensures
