-- What is known of the tables of an accepted bundle.
use Rattle.std.proofs.Common.{◌≡◌, ℕ, zero, suc, ◌+◌, ◌<◌, Bool, true, false, List, [], ◌∷◌, Option, Some, None, slice_get, length, if◌then◌else◌, refl, ◌∙◌, ap, arith}
use Rattle.demands.specs.Demands.{AllMet, first_unmet}
use Rattle.name_scopes.specs.Names.{found}
use Rattle.demands.specs.Lemmas.Meeting.{all_met}
use Rattle.ir_tree.specs.declared.definitions.Funcsig.{Funcsig}
use Rattle.ir_tree.specs.declared.items.Item.{Item}
use Rattle.ir_tree.specs.declared.items.Item.TheVariants as items
use Rattle.type_definitions.specs.declared.definition.TypeDef.{TypeDef}
use Rattle.type_definitions.specs.declared.definition.TypeDef.TheVariants.{Int, Struct, Array, Hybrid, Void, Ref, Iref, FuncRef, StackRef, ThreadRef, Sig}
use Rattle.mu_types.specs.Graph.{Table}
use Rattle.bundle_names.specs.declared.globals.Globals.{Globals}
use Rattle.bundle_names.specs.Globals.{globals_of}
use Rattle.bundle_names.specs.Naming.{name_demands}
use Rattle.check_tables.specs.declared.tables.Signature.{Signature}
use Rattle.check_tables.specs.declared.tables.Tables.{Tables}
use Rattle.check_tables.specs.Types.{class_like, definition_at, definition_in, is_type_there, is_sig, iref_at, iref_in, funcref_at}
use Rattle.check_tables.specs.Lookups.{or_zero, written_number, leaves_named}
use Rattle.check_tables.specs.TypeTests.{is_sized}
use Rattle.bundle_laws.specs.Typed.{TablesFit}
use Rattle.checked_code.specs.Graph.{signature_id, signatures_of, table_of}
use Rattle.checked_code.specs.Entries.{signature_entry, signature_entries, global_entries, tables_of}
use Rattle.checked_code.specs.Rules.{globals_demands}
use Rattle.checked_code.specs.Checking.{bundle_tables, check_demands}
use Rattle.bundle_laws.specs.Lemmas.Bodies.{some_is}
use Rattle.bundle_laws.specs.Lemmas.Graph.{Counted, counted, bundle_some, graph_is, is_signature_id, part_is_type}

known : (b : Bool) (c : ℕ) → b ≡ true → (if b then Some c else None) ≡ Some (or_zero (if b then Some c else None))
known true c h = refl
known false c h = cc

-- ---- globals

sized_is_type : (d : Option TypeDef) → is_sized d ≡ true → is_type_there d ≡ true
sized_is_type None h = cc
sized_is_type (Some (Int width)) h = refl
sized_is_type (Some (Struct fields)) h = refl
sized_is_type (Some (Array element size)) h = refl
sized_is_type (Some (Hybrid fixed element)) h = cc
sized_is_type (Some Void) h = cc
sized_is_type (Some (Ref t)) h = refl
sized_is_type (Some (Iref t)) h = refl
sized_is_type (Some (FuncRef s)) h = refl
sized_is_type (Some StackRef) h = refl
sized_is_type (Some ThreadRef) h = refl
sized_is_type (Some (Sig takes gives)) h = cc

sized_place : (p : Table) (o : Option ℕ) (c : ℕ) → is_sized (definition_in p o) ≡ true → or_zero (iref_in p o) ≡ c → (t : ℕ) × (iref_at p t ≡ Some c)
sized_place p None c h e = cc
sized_place p (Some t) c h e =
    (t, known (is_type_there (definition_at p t)) (class_like p.definitions (Iref t)) (sized_is_type (definition_at p t) h) ∙ ap (λ (x : ℕ). Some x) e)

cells_fit : (p : Tables) (leaves : ℕ) (is : List Item) (n c : ℕ) → AllMet (globals_demands p leaves is) → slice_get (global_entries p.types p.globals is) n ≡ Some c →
    (t : ℕ) × (iref_at p.types t ≡ Some c)
cells_fit p leaves [] n c m h = cc
cells_fit p leaves (items.Typedef d ∷ is) n c m h = cells_fit p leaves is n c m h
cells_fit p leaves (items.Funcsig d ∷ is) n c m h = cells_fit p leaves is n c m h
cells_fit p leaves (items.Const d ∷ is) n c m h = cells_fit p leaves is n c m h
cells_fit p leaves (items.GlobalCell d ∷ is) zero c m h =
    sized_place p.types (written_number (found p.globals.names d.of_type.text)) c m.0.0
    (some_is (or_zero (iref_in p.types (written_number (found p.globals.names d.of_type.text)))) c h)
cells_fit p leaves (items.GlobalCell d ∷ is) (suc n) c m h = cells_fit p (leaves + length (leaves_named p d.of_type)) is n c m.1 h
cells_fit p leaves (items.Funcdecl d ∷ is) n c m h = cells_fit p leaves is n c m h
cells_fit p leaves (items.Funcdef d ∷ is) n c m h = cells_fit p leaves is n c m h

-- ---- signatures

-- an entry is that of a signature of the bundle, so that there is one
entry_is : (t : Table) (g : Globals) (is : List Item) (n : ℕ) (s : Signature) → slice_get (signature_entries t g is) n ≡ Some s →
    ((d : Funcsig) × (signature_entry t g d ≡ s)) × (0 < length (signatures_of g is))
entry_is t g [] n s h = cc
entry_is t g (items.Typedef d ∷ is) n s h = entry_is t g is n s h
entry_is t g (items.Funcsig d ∷ is) zero s h = ((d, some_is (signature_entry t g d) s h), omega arith)
entry_is t g (items.Funcsig d ∷ is) (suc n) s h = ((entry_is t g is n s h).0, omega arith)
entry_is t g (items.Const d ∷ is) n s h = entry_is t g is n s h
entry_is t g (items.GlobalCell d ∷ is) n s h = entry_is t g is n s h
entry_is t g (items.Funcdecl d ∷ is) n s h = entry_is t g is n s h
entry_is t g (items.Funcdef d ∷ is) n s h = entry_is t g is n s h

signatures_fit : (g : Globals) (bundle : List Item) (n : ℕ) (s : Signature) → Counted g bundle → slice_get (signature_entries (table_of g bundle) g bundle) n ≡ Some s →
    (k : ℕ) × (funcref_at (table_of g bundle) k ≡ Some s.funcref)
signatures_fit g bundle n s c h =
    let entry : ((d : Funcsig) × (signature_entry (table_of g bundle) g d ≡ s)) × (0 < length (signatures_of g bundle)) = entry_is (table_of g bundle) g bundle n s h in
    let k : ℕ = signature_id g entry.0.0.name in (
      k,
      known (is_sig (definition_at (table_of g bundle) k)) (class_like (table_of g bundle).definitions (FuncRef k)) (is_signature_id g bundle entry.0.0.name c entry.1)
          ∙ ap (λ (x : Signature). Some x.funcref) entry.0.1,
    )

-- ---- all of them

pub tables_fit : (bundle : List Item) → first_unmet (name_demands bundle) ≡ None → first_unmet (check_demands bundle) ≡ None → TablesFit (bundle_tables bundle)
unfolding check_demands tables_of
tables_fit bundle named checked =
    let uses = (all_met (name_demands bundle) named).1 in
    let rules = (all_met (check_demands bundle) checked).0 in
    record {
      graph = graph_is (globals_of bundle) bundle (counted bundle) (bundle_some bundle) uses;
      parts = λ t n k h. part_is_type (globals_of bundle) bundle t n k (counted bundle) h;
      cells = λ n c h. cells_fit (tables_of (globals_of bundle) bundle) 0 bundle n c rules.1.1.1 h;
      signatures = λ n s h. signatures_fit (globals_of bundle) bundle n s (counted bundle) h;
    }
