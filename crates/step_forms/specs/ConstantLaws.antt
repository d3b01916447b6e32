-- The list of the values of a bundle's constants is no longer than that of their classes.
use Rattle.std.specs.Prelude.{◌≡◌, ℕ, zero, suc, ◌<◌, ◌≤◌, List, [], ◌∷◌, IsSome, length, slice_get, refl}
use Rattle.std.proofs.Common.{arith, ap, subst, sym, ◌∙◌}
use Rattle.std.proofs.lemmas.List.{length-map}
use Rattle.ir_tree.specs.declared.items.Item.{Item}
use Rattle.ir_tree.specs.declared.items.Item.TheVariants as items
use Rattle.type_definitions.specs.declared.definition.TypeDef.{TypeDef}
use Rattle.mu_types.specs.Graph.{Table}
use Rattle.mu_values.specs.declared.scalars.Scalar.{Scalar}
use Rattle.mu_values.specs.Constants.{constant_value}
use Rattle.bundle_names.specs.declared.globals.Globals.{Globals}
use Rattle.bundle_names.specs.Globals.{globals_of}
use Rattle.checked_code.specs.Entries.{tables_of, constant_entries}
use Rattle.checked_code.specs.Graph.{table_of}
use Rattle.checked_code.specs.declared.constants.Constant.{Constant}
use Rattle.checked_code.specs.ConstantValues.{values_to, told}
use Rattle.checked_code.specs.Constants.{constants_of, constant_values}
use Rattle.checked_code.specs.Checking.{bundle_tables}
use Rattle.step_forms.specs.OperandLaws.{is_some_within}

entries_and_constants : (t : Table) (g h : Globals) (is : List Item) → length (constants_of h is) ≡ length (constant_entries t g is)
entries_and_constants t g h [] = refl
entries_and_constants t g h (items.Const d ∷ is) = ap suc (entries_and_constants t g h is)
entries_and_constants t g h (_ ∷ is) = entries_and_constants t g h is

length-values_to : (graph : List TypeDef) (cs : List Constant) (depth : ℕ) → length (values_to graph cs depth) ≤ length cs
unfolding values_to
length-values_to graph cs zero = omega arith
length-values_to graph cs (suc depth) =
    let f : Constant → List Scalar = λ c. constant_value graph (told (values_to graph cs depth)) c.of_type c.literal in
    subst (λ n. n ≤ length cs) (sym (length-map cs f)) (omega arith)

entries_are : (bundle : List Item) → (bundle_tables bundle).constants ≡ constant_entries (table_of (globals_of bundle) bundle) (globals_of bundle) bundle
unfolding tables_of
entries_are bundle = refl

pub constant_within : (bundle : List Item) (n : ℕ) → IsSome (slice_get (constant_values (bundle_tables bundle) bundle) n) → n < length (bundle_tables bundle).constants
constant_within bundle n h =
    let p = bundle_tables bundle in
    let within : n < length (constant_values p bundle) = is_some_within _ n h in
    let few : length (constant_values p bundle) ≤ length (constants_of p.globals bundle) = length-values_to _ _ _ in
    let even : length (constants_of p.globals bundle) ≡ length (bundle_tables bundle).constants =
    entries_and_constants (table_of (globals_of bundle) bundle) (globals_of bundle) p.globals bundle ∙ ap length (sym (entries_are bundle)) in
    omega arith

pub ruleset constants = (constant_within)
