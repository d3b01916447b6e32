use Rattle.std.proofs.Common.{◌≡◌, ◌<◌, ℕ, List, length, map, sym, subst, ap, ◌∙◌}
use Rattle.std.proofs.lemmas.List.{length-map}
use Rattle.mu_base.specs.Lists.{Roomy}
use Rattle.mu_types.specs.Graph.{Table}
use Rattle.mu_values.specs.declared.scalars.Scalar.{Scalar}
use Rattle.mu_values.specs.Constants.{value_at}
use Rattle.checked_code.specs.declared.constants.Constant.{Constant}
use Rattle.checked_code.specs.ConstantValues.{told}
use Rattle.checked_code.specs.Constants.{constant_values}
use Rattle.checked_code.specs.ConstantMembers.{Lawful}
use Rattle.checked_code.specs.Lemmas.ConstantsAnswered.{AreHeld, lawful_held, values_held, if_ok}
use Rattle.bundle_constants.proofs.bundle.values.Goals as goal

pub make_all-requires-clause-lawful : goal.make_all-requires-clause-lawful
make_all-requires-clause-lawful c =
    subst (λ (cs : List Constant). Lawful c.classes.result.now.definitions cs) (sym c.as_slice-2.ensures)
    (lawful_held c.args.tables.now c.args.items.now c.classes.result.now.definitions c.in_ok-constants.constants (record {
      globals = c.requires.globals;
      tables = c.requires.tables;
      met = c.requires.met;
      types = ap (λ (t : Table). t.definitions) c.classes.ensures.same;
      constants = c.in_ok-constants.ensures;
    }))

pub returns : goal.returns
returns c =
    let held : AreHeld c.args.tables.now c.args.items.now c.classes.result.now.definitions c.as_slice-2.result.now = record {
      globals = c.requires.globals;
      tables = c.requires.tables;
      met = c.requires.met;
      types = ap (λ (t : Table). t.definitions) c.classes.ensures.same;
      constants = c.as_slice-2.ensures ∙ c.in_ok-constants.ensures;
    } in
    let many : c.in_ok-many.many ≡ length c.as_slice-2.result.now = c.in_ok-many.ensures ∙ ap (λ (cs : List Constant). length cs) (c.as_slice.ensures ∙ sym c.as_slice-2.ensures) in
    if_ok (λ (all : List (Roomy Scalar)). length all ≡ c.in_ok-many.many) (λ (all : List (Roomy Scalar)). (n : ℕ) → n < c.in_ok-many.many → told (map (λ v. v.members) all) n ≡ value_at c.in_ok-made.made n)
    (λ (all : List (Roomy Scalar)). map (λ v. v.members) all ≡ constant_values c.args.tables.now c.args.items.now) c.listed.result c.listed.ensures.count c.listed.ensures.values
    (λ all count same. values_held c.args.tables.now c.args.items.now c.classes.result.now.definitions c.as_slice-2.result.now held c.in_ok-many.many many (value_at c.in_ok-made.made) c.in_ok-made.ensures
    (map (λ v. v.members) all) (length-map all (λ v. v.members) ∙ count) same)
