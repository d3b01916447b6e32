-- A function that a client's script pushes is one of the bundle.
use Rattle.std.specs.Prelude.{◌≡◌, ℕ, zero, suc, List, [], ◌∷◌, Option, Some, None, IsSome, map, option_map, slice_get, refl}
use Rattle.std.proofs.Common.{subst}
use Rattle.name_scopes.specs.Names.{found}
use Rattle.ir_lex.specs.declared.name.Name.{Name}
use Rattle.ir_tree.specs.declared.items.Item.{Item}
use Rattle.bundle_names.specs.declared.globals.Sort.{Sort}
use Rattle.bundle_names.specs.declared.globals.Sort.TheVariants as sorts
use Rattle.bundle_names.specs.Globals.{globals_of}
use Rattle.check_tables.specs.declared.tables.Tables.{Tables}
use Rattle.check_tables.specs.Lookups.{global_class, funcref_of, signature_in, noted_signature}
use Rattle.checked_code.specs.Entries.{tables_of}
use Rattle.checked_code.specs.Checking.{bundle_tables}
use Rattle.typed_heap.specs.Fits.{signature_classes}
use Rattle.typed_heap.specs.Places.{with_some}
use Rattle.mu_model.specs.Clients.{ClassedFunction}
use Rattle.model_laws.specs.ClientsFit.{PushFits}
use Rattle.client_script.specs.declared.tree.Pushed.{Pushed}
use Rattle.client_script.specs.Meaning.{pushed_meant}
use Rattle.client_script.specs.Told.{function_named, pushed_told}

mapped_there : {A B : Type 0} (f : A → B) (xs : List A) (n : ℕ) → IsSome (slice_get xs n) → IsSome (slice_get (map f xs) n)
mapped_there f [] zero h = h
mapped_there f [] (suc n) h = h
mapped_there f (x ∷ xs) zero h = refl
mapped_there f (x ∷ xs) (suc n) h = mapped_there f xs n h

signature_there : (p : Tables) (o : Option ℕ) → IsSome (funcref_of (signature_in p o)) → IsSome o
signature_there p None h = h
signature_there p (Some s) h = refl

-- what an entry pushes, where a name is told so
abbrev pub pushes : Option Pushed → Option ℕ
pushes o = option_map (λ (f : ClassedFunction). f.1) (option_map pushed_meant o)

module _ (p : Tables) where
  there : (o : Option Sort) → IsSome (global_class p o) → (f : ℕ) → function_named o ≡ Some f → IsSome (slice_get (signature_classes p) f)
  there (Some (sorts.Function n)) class f is =
      let same : n ≡ f = cc in
      subst (λ (k : ℕ). IsSome (slice_get (signature_classes p) k)) same
      (mapped_there (λ s. noted_signature (slice_get p.signatures s)) p.functions n (signature_there p (slice_get p.functions n) class))
  there (Some (sorts.Constant n)) class f is = cc
  there (Some (sorts.GlobalCell n)) class f is = cc
  there (Some (sorts.Written n)) class f is = cc
  there (Some (sorts.Signature n)) class f is = cc
  there None class f is = cc

  fits : (class number : Option ℕ) → (IsSome class → (f : ℕ) → number ≡ Some f → IsSome (slice_get (signature_classes p) f))
      → PushFits p (pushes (option_map (λ (f : ClassedFunction). record { class = f.0; function = f.1 }) (with_some class (λ (c : ℕ). with_some number (λ (f : ℕ). Some (c, f))))))
  fits None number h = tt
  fits (Some c) None h = tt
  fits (Some c) (Some f) h = h refl f refl

pub pushed_fits : (bundle : List Item) (n : Name) → PushFits (bundle_tables bundle) (pushes (pushed_told bundle n))
unfolding tables_of
pushed_fits bundle n =
    let o : Option Sort = found (globals_of bundle).names n.text in
    fits (bundle_tables bundle) (global_class (bundle_tables bundle) o) (function_named o) (there (bundle_tables bundle) o)
