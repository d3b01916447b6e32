use Rattle.std.proofs.Common.{◌≡◌, ◌<◌, ℕ, List, Some, length, map, refl, sym, ◌∙◌, ap, subst, slice_get}
use Rattle.std.proofs.lemmas.List.{length-map}
use Rattle.std.proofs.lemmas.Option.{slice_get_read}
use Rattle.mu_base.specs.Lists.{Roomy}
use Rattle.ir_tree.specs.declared.items.Item.{Item}
use Rattle.mu_values.specs.declared.scalars.Scalar.{Scalar}
use Rattle.bundle_names.specs.Globals.{globals_of}
use Rattle.checked_code.specs.Constants.{constant_values}
use Rattle.checked_code.specs.Lemmas.ConstantsAnswered.{as_many, value_there}
use Rattle.checked_code.specs.Checking.{bundle_tables}
use Rattle.checked_code.proofs.checked.Checked.constant.Goals as goal

-- an index is below the number of values where it is below that of the constants
below : (bundle : List Item) (values : List (Roomy Scalar)) (n : ℕ) → map (λ v. v.members) values ≡ constant_values (bundle_tables bundle) bundle → n < length (bundle_tables bundle).constants → n < length values
below bundle values n e l =
    subst (λ (k : ℕ). n < k) (sym (as_many (globals_of bundle) bundle) ∙ ap (λ (vs : List (List Scalar)). length vs) (sym e) ∙ length-map values (λ v. v.members)) l

held : (was bundle : List Item) (values : List (Roomy Scalar)) → was ≡ bundle → map (λ v. v.members) values ≡ constant_values (bundle_tables was) was → map (λ v. v.members) values ≡ constant_values (bundle_tables bundle) bundle
held was bundle values e h = subst (λ (b : List Item). map (λ v. v.members) values ≡ constant_values (bundle_tables b) b) e h

pub bounds-as_slice-n : goal.bounds-as_slice-n
bounds-as_slice-n c =
    subst (λ (vs : List (Roomy Scalar)). c.args.n < length vs) (sym c.as_slice.ensures)
    (below c.args.self.now c.self.inside.constants c.args.n (held c.self.inside.bundle c.args.self.now c.self.inside.constants c.self.view_is c.self.invariant.6) c.requires)

pub returns : goal.returns
returns c =
    let all = held c.self.inside.bundle c.args.self.now c.self.inside.constants c.self.view_is c.self.invariant.6 in
    let there : slice_get c.as_slice.result.now c.args.n ≡ Some c.index-as_slice-n.result =
    slice_get_read c.as_slice.result.now (length c.as_slice.result.now) c.args.n c.index-as_slice-n.result refl
    (subst (λ (vs : List (Roomy Scalar)). c.args.n < length vs) (sym c.as_slice.ensures) (below c.args.self.now c.self.inside.constants c.args.n all c.requires)) c.index-as_slice-n.is in
    value_there c.self.inside.constants (constant_values (bundle_tables c.args.self.now) c.args.self.now) c.args.n c.index-as_slice-n.result all
    (subst (λ (vs : List (Roomy Scalar)). slice_get vs c.args.n ≡ Some c.index-as_slice-n.result) c.as_slice.ensures there)
