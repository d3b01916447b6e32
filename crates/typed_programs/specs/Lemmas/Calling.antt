-- Functions that are called: a reference to functions of a signature is NULL, or a function that takes and gives what the signature does.
use Rattle.std.proofs.Common.{◌≡◌, ℕ, true, List, Option, Some, None, IsSome, IsSomeAnd, slice_get, is_some, refl, sym, ◌∙◌, ap}
use Rattle.demands.specs.Demands.{first_unmet}
use Rattle.ir_tree.specs.declared.items.Item.{Item}
use Rattle.type_definitions.specs.declared.definition.TypeDef.TheVariants as types
use Rattle.mu_values.specs.declared.scalars.Scalar.{Scalar}
use Rattle.mu_values.specs.declared.scalars.Scalar.TheVariants.{Null, Func}
use Rattle.check_tables.specs.declared.tables.Signature.{Signature}
use Rattle.check_tables.specs.Lookups.{noted_signature}
use Rattle.checked_code.specs.declared.blocks.Function.{Function}
use Rattle.bundle_names.specs.Naming.{name_demands}
use Rattle.checked_code.specs.Checking.{bundle_tables, bundle_functions, check_demands}
use Rattle.checked_code.specs.declared.code.Source.{Source}
use Rattle.bundle_laws.specs.Typed.{SourceFits, HasSignature}
use Rattle.typed_heap.specs.Fits.{DefinitionFits, signature_classes}
use Rattle.typed_heap.specs.Places.{with_some}
use Rattle.mu_model.specs.Types.{classes_taken, classes_given}
use Rattle.mu_model.specs.Operands.{scalar_in}
use Rattle.model_laws.specs.ActsFit.{IsFunction}
use Rattle.model_laws.specs.Lemmas.Basics.{some_is, some_more}
use Rattle.model_numbers.specs.Sources.{value_at}
use Rattle.model_numbers.specs.Numbered.{numbered}
use Rattle.bundle_facts.specs.Lemmas.Accepted as facts
use Rattle.typed_programs.specs.Lemmas.Blocks.{of_map}
use Rattle.typed_programs.specs.Lemmas.Sources.{graph_of, Moment, one_scalar}

pub record IsFunctionOf (bundle : List Item) (z : Signature) (f : ℕ) : Type 0 where
  pub takes : classes_taken (bundle_tables bundle) f ≡ z.takes
  pub gives : classes_given (bundle_tables bundle) f ≡ z.gives
  pub there : IsFunction (numbered bundle) f

-- NULL, or a function of the signature
abbrev pub IsCalleeOf : List Item → Signature → Scalar → Type 0
IsCalleeOf bundle z Null = Unit {0}
IsCalleeOf bundle z (Func f) = IsFunctionOf bundle z f
IsCalleeOf bundle z _ = ⊥

module _ (bundle : List Item) (names : first_unmet (name_demands bundle) ≡ None) (checked : first_unmet (check_demands bundle) ≡ None) where
  function_there : (f c : ℕ) → slice_get (signature_classes (bundle_tables bundle)) f ≡ Some c → IsFunction (numbered bundle) f
  function_there f c e =
      let there = of_map (λ s. noted_signature (slice_get (bundle_tables bundle).signatures s)) (bundle_tables bundle).functions f c e in
      by (slice_get (bundle_functions bundle) f) (sym (facts.functions_are_there bundle names checked f) ∙ ap is_some there.1)
    where
      by : (o : Option Function) → is_some o ≡ true → IsSomeAnd (with_some o (λ (f : Function). Some f.first)) (λ b. Unit {0})
      by None h = cc
      by (Some f) h = tt

  -- there is a function with a number that has a signature
  pub is_function : (f : ℕ) → IsSome (slice_get (signature_classes (bundle_tables bundle)) f) → IsFunction (numbered bundle) f
  is_function f h = by (slice_get (signature_classes (bundle_tables bundle)) f) refl h
    where
      by : (o : Option ℕ) → slice_get (signature_classes (bundle_tables bundle)) f ≡ o → IsSome o → IsFunction (numbered bundle) f
      by None e h = cc
      by (Some c) e h = function_there f c e

module _ (bundle : List Item) (r : Moment bundle) where
  pub callee_fits : (c : ℕ) (f : Source) (z : HasSignature (bundle_tables bundle) c) → SourceFits (bundle_tables bundle) r.classes f z.entry.funcref →
      IsSomeAnd (scalar_in (value_at bundle r.values f)) (IsCalleeOf bundle z.entry)
  callee_fits c f z h =
      let s = facts.signatures_are_defined bundle r.names r.checked z.number z.entry z.there in
      some_more (scalar_in (value_at bundle r.values f)) (DefinitionFits (graph_of bundle) r.world (types.FuncRef s.funcref.target)) (IsCalleeOf bundle z.entry)
      (λ x hx. by s.funcref.target s.funcref.definition x hx)
      (one_scalar bundle r z.entry.funcref (types.FuncRef s.funcref.target) f (record { leaf = s.funcref.leaf; definition = s.funcref.definition }) h)
    where
      by : (k : ℕ) → slice_get (graph_of bundle) z.entry.funcref ≡ Some (types.FuncRef k) → (x : Scalar) → DefinitionFits (graph_of bundle) r.world (types.FuncRef k) x → IsCalleeOf bundle z.entry x
      by k e Null hx = tt
      by k e (Func n) hx =
          let called = facts.called_functions_fit bundle r.names r.checked r.world z.number n z.entry z.there r.globals.functions (some_is _ (λ d. DefinitionFits (graph_of bundle) r.world d (Func n)) (types.FuncRef k) e hx) in
          record { takes = called.1; gives = called.2; there = is_function bundle r.names r.checked n (ap is_some called.0) }
      by k e _ hx = absurd hx
