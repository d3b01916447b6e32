-- The faults of a graph are those of the demands on types.
use Rattle.std.proofs.Common.{◌≡◌, ℕ, ◌+◌, List, [], ◌∷◌, ◌++◌, length, Option, Some, None, Err, slice_get, refl, sym, ◌∙◌, ap, subst}
use Rattle.demands.specs.declared.fault.Fault.{Fault}
use Rattle.demands.specs.declared.fault.Fault.TheVariants.{Memory, At}
use Rattle.demands.specs.Demands.{Demands, first_unmet, as_kind, Judges, Meets}
use Rattle.demands.specs.Laws.{fault_as}
use Rattle.demands.specs.Lemmas.Meeting.{carried}
use Rattle.ir_tree.specs.declared.items.Item.{Item}
use Rattle.type_definitions.specs.declared.definition.TypeDef.{TypeDef}
use Rattle.type_definitions.specs.declared.definition.TypeDef.TheVariants.{Int, Void, StackRef, ThreadRef}
use Rattle.type_definitions.specs.Same.{IsGraph}
use Rattle.mu_types.specs.declared.faults.TypeKind.{TypeKind}
use Rattle.mu_types.specs.Graph.{Table, Written}
use Rattle.mu_types.specs.Implied.{complete, references_from}
use Rattle.mu_types.specs.TypeDemands.{passes, written_demands}
use Rattle.bundle_names.specs.declared.globals.Globals.{Globals}
use Rattle.bundle_names.specs.Globals.{globals_of}
use Rattle.mu_types.specs.CompleteLaws.{complete_is_graph}
use Rattle.check_tables.specs.declared.fault.CheckKind.{CheckKind}
use Rattle.check_tables.specs.declared.fault.CheckKind.TheVariants.{Types}
use Rattle.check_tables.specs.Held.{IsHeld}
use Rattle.checked_code.specs.Graph.{graph_of, table_of, places_of, type_demands}
use Rattle.bundle_tables.specs.Inner.{fault_of}
use Rattle.checked_code.specs.Lemmas.Counted.{graph_counted}

-- the demands on the graph are those on the types
demands_same : (g : Globals) (is : List Item) (w : Written) → w.definitions ≡ graph_of g is → w.places ≡ places_of is → as_kind Types (written_demands w) ≡ type_demands g is
demands_same g is w d p =
    ap (λ (ds : List TypeDef). as_kind Types (passes (complete ds) w.places (length ds))) d
    ∙ ap (λ (ps : List (List ℕ)). as_kind Types (passes (complete (graph_of g is)) ps (length (graph_of g is)))) p

first_as : (g : Globals) (is : List Item) (w : Written) (o : Option (Fault TypeKind)) → w.definitions ≡ graph_of g is → w.places ≡ places_of is → first_unmet (written_demands w) ≡ o → first_unmet (type_demands g is) ≡ fault_as Types o
first_as g is w o d p h =
    ap (λ (ds : Demands CheckKind). first_unmet ds) (sym (demands_same g is w d p)) ∙ carried Types (written_demands w) ∙ ap (λ (f : Option (Fault TypeKind)). fault_as Types f) h

pub accepted : (g : Globals) (is : List Item) (w : Written) → w.definitions ≡ graph_of g is → w.places ≡ places_of is → first_unmet (written_demands w) ≡ None → first_unmet (type_demands g is) ≡ None
accepted g is w d p h = first_as g is w None d p h

pub refused : {A : Type 0} (g : Globals) (is : List Item) (w : Written) (made : A) (f : Fault TypeKind) → w.definitions ≡ graph_of g is → w.places ≡ places_of is →
    Meets {A = Table} (written_demands w) (Err f) → Judges (type_demands g is) made (Err (fault_of f))
refused g is w made Memory d p h = tt
refused g is w made (At kind place) d p h = first_as g is w (Some (At kind place)) d p h

abbrev a_table : List TypeDef → ℕ → Table
a_table ds n = record { definitions = ds; written = n }

table_same : (a b : List TypeDef) (m n : ℕ) → a ≡ b → m ≡ n → a_table a m ≡ a_table b n
table_same a b m n e f = rw (e, f) refl

-- the whole graph is the table
pub table_is : (g : Globals) (is : List Item) (ds : List TypeDef) (p : Table) → ds ≡ graph_of g is → p.definitions ≡ complete ds → p.written ≡ length ds → p ≡ table_of g is
table_is g is ds p d e f = table_same p.definitions (complete (graph_of g is)) p.written (length (graph_of g is)) (e ∙ ap complete d) (f ∙ ap (λ (l : List TypeDef). length l) d)

at_seam : (g : List TypeDef) (x : TypeDef) (xs ys : List TypeDef) → slice_get (g ++ x ∷ [] ++ xs ++ ys) (length g) ≡ Some x
at_seam [] x xs ys = refl
at_seam (d ∷ g) x xs ys = at_seam g x xs ys

void_at : (ds g : List TypeDef) (n : ℕ) → g ≡ complete ds → n ≡ length ds → slice_get g n ≡ Some Void
void_at ds g n e f = rw (e, f) (at_seam ds Void (Int 1 ∷ Int 32 ∷ StackRef ∷ ThreadRef ∷ []) (references_from 0 (ds ++ Void ∷ [])))

-- the whole graph can be held by a table
pub is_held : (g : Globals) (is : List Item) (ds : List TypeDef) (p : Table) (n : ℕ) → g ≡ globals_of is → ds ≡ graph_of g is → IsGraph ds → p.definitions ≡ complete ds → p.written ≡ length ds → n ≡ g.counts.written + g.counts.signatures → IsHeld p n
is_held g is ds p n h d closed e f m =
    let count : n ≡ length ds = m ∙ graph_counted g is h ∙ ap (λ (l : List TypeDef). length l) (sym d) in
    record { graph = subst (λ (xs : List TypeDef). IsGraph xs) (sym e) (complete_is_graph ds closed); count = f ∙ sym count; void = void_at ds p.definitions n e count }
