-- What a global name of a client's script tells fits its class.
use Rattle.std.proofs.Common.{◌≡◌, ◌∙◌, ℕ, true, List, [], Option, Some, None, IsSomeAnd, is_some, refl, subst}
use Rattle.demands.specs.Demands.{first_unmet}
use Rattle.name_scopes.specs.Names.{found}
use Rattle.ir_lex.specs.declared.name.Name.{Name}
use Rattle.ir_tree.specs.declared.items.Item.{Item}
use Rattle.bundle_names.specs.declared.globals.Sort.{Sort}
use Rattle.bundle_names.specs.declared.globals.Sort.TheVariants as sorts
use Rattle.bundle_names.specs.Globals.{globals_of}
use Rattle.bundle_names.specs.Naming.{name_demands}
use Rattle.bundle_names.specs.Uses.{is_operand}
use Rattle.check_tables.specs.Lookups.{global_class, class_of_global}
use Rattle.checked_code.specs.Entries.{tables_of}
use Rattle.checked_code.specs.Checking.{bundle_tables, check_demands}
use Rattle.checked_code.specs.declared.code.Source.{Source}
use Rattle.checked_code.specs.declared.code.Source.TheVariants as sources
use Rattle.bundle_laws.specs.Typed.{SourceFits}
use Rattle.typed_heap.specs.Fits.{World, ValueFits}
use Rattle.typed_heap.specs.Places.{with_some}
use Rattle.frames.specs.Activations.{Value}
use Rattle.mu_model.specs.Types.{type_graph}
use Rattle.mu_model.specs.Clients.{Classed}
use Rattle.mu_model.specs.Operands.{global_value, global_operand}
use Rattle.mu_model.specs.Answers.{global_told}
use Rattle.model_laws.specs.Values.{HasGlobals}
use Rattle.model_laws.specs.ClientsFit.{ArgumentFits}
use Rattle.model_numbers.specs.Sources.{value_at}
use Rattle.client_script.specs.Told.{told_as, told}
use Rattle.client_script.specs.Meaning.{argument_meant}
use Rattle.client_script.specs.Lemmas.Partial.{there}
use Rattle.client_script.specs.Lemmas.ToldValues.{values_are_told}
use Rattle.typed_programs.specs.Lemmas.Sources.{Moment, source_fits}

module _ (bundle : List Item) (names : first_unmet (name_demands bundle) ≡ None) (checked : first_unmet (check_demands bundle) ≡ None) (w : World) (globals : HasGlobals (bundle_tables bundle) w) where
  -- a moment at which no variable has a value
  abbrev moment : Moment bundle
  moment = record { names = names; checked = checked; world = w; globals = globals; classes = []; values = []; fit = tt }

  global_fits : (s : Source) (c : ℕ) (v : Value) → SourceFits (bundle_tables bundle) [] s c → value_at bundle [] s ≡ Some v → ValueFits (type_graph (bundle_tables bundle)) w c v
  global_fits s c v class value = subst (λ (o : Option Value). IsSomeAnd o (ValueFits (type_graph (bundle_tables bundle)) w c)) value (source_fits bundle moment s c class)

  sort_fits : (o : Option Sort) (c : ℕ) (v : Value) → global_class (bundle_tables bundle) o ≡ Some c → global_value bundle o ≡ Some v → ValueFits (type_graph (bundle_tables bundle)) w c v
  sort_fits (Some (sorts.Constant n)) c v class value = global_fits (sources.Constant n) c v class value
  sort_fits (Some (sorts.GlobalCell n)) c v class value = global_fits (sources.GlobalCell n) c v class value
  sort_fits (Some (sorts.Function n)) c v class value = global_fits (sources.Function n) c v class value
  sort_fits (Some (sorts.Written n)) c v class value = cc
  sort_fits (Some (sorts.Signature n)) c v class value = cc
  sort_fits None c v class value = cc

  name_fits : (n : Name) (v : Classed) → global_told bundle n ≡ Some v → ValueFits (type_graph (bundle_tables bundle)) w v.0 v.1
  unfolding tables_of
  name_fits n v is =
      let class = there (class_of_global (bundle_tables bundle) n) (λ (c : ℕ). with_some (global_operand bundle n) (λ (x : Value). Some (c, x))) v is in
      let value = there (global_operand bundle n) (λ (x : Value). Some (class.0, x)) v class.2 in
      let same : (class.0, value.0) ≡ v = (let e = value.2 in cc) in
      subst (λ (x : Classed). ValueFits (type_graph (bundle_tables bundle)) w x.0 x.1) same (sort_fits (found (globals_of bundle).names n.text) class.0 value.0 class.1 value.1)

  pub told_fits : (n : Name) → is_operand (found (globals_of bundle).names n.text) ≡ true → ArgumentFits (type_graph (bundle_tables bundle)) w (argument_meant (told bundle n))
  told_fits n is = by (global_told bundle n) refl (values_are_told bundle names checked n ∙ is)
    where
      by : (o : Option Classed) → global_told bundle n ≡ o → is_some o ≡ true → ArgumentFits (type_graph (bundle_tables bundle)) w (argument_meant (told_as o))
      by None e some = cc
      by (Some v) e some = name_fits n v e
