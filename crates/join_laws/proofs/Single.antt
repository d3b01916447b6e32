-- A bundle that meets the demands on names has a whole graph, and where it meets all demands, no type of it contains itself.
use Rattle.std.proofs.Common.{◌≡◌, ℕ, ◌+◌, ◌-◌, ◌≤◌, Bool, true, false, not, List, [], ◌∷◌, ◌++◌, length, slice_get, inl, inr, refl, ◌∙◌, ap, arith}
use Rattle.std.proofs.lemmas.List.{length-append}
use Rattle.type_definitions.specs.declared.definition.TypeDef.{TypeDef}
use Rattle.type_definitions.specs.declared.definition.TypeDef.TheVariants.{Int, Void, Ref, Iref, FuncRef, StackRef, ThreadRef}
use Rattle.type_definitions.specs.Laws.{IsFinite}
use Rattle.type_definitions.specs.Parts.{parts_at, contains_itself}
use Rattle.ir_tree.specs.declared.items.Item.{Item}
use Rattle.demands.specs.Demands.{AllMet}
use Rattle.mu_types.specs.Implied.{complete, references_from}
use Rattle.mu_types.specs.TypeDemands.{endless_type, passes}
use Rattle.bundle_names.specs.Globals.{globals_of}
use Rattle.bundle_names.specs.Naming.{name_demands}
use Rattle.check_tables.specs.Types.{is_type_there, is_sig}
use Rattle.checked_code.specs.Graph.{graph_of, places_of}
use Rattle.checked_code.specs.Checking.{check_demands}
use Rattle.join_laws.proofs.Classes.{IsWhole}
use Rattle.join_laws.proofs.Joined.{graph}
use Rattle.join_laws.proofs.Tables.{table}
use Rattle.join_laws.proofs.Pairs.{cases_low, leads_none, implied_parts}
use Rattle.join_laws.proofs.Types.{each_at, of_kind, from_zero}
use Rattle.mu_types.specs.CompleteLaws.{headed}
use Rattle.bundle_laws.specs.Lemmas.Graph.{counted, bundle_some, graph_is, part_is_type}
use Rattle.bundle_facts.specs.Lemmas.Completed.{reference_in, void_in, ref_stands, funcref_stands, written_there}

pub whole : (b : List Item) → AllMet (name_demands b) → IsWhole (table b)
whole b m =
    let g = globals_of b in
    let w = graph_of g b in
    let head = headed w in
    record {
      graph = graph_is g b (counted b) (bundle_some b) m.1;
      written = long w;
      ref = λ t h. let there = written_there (table b) t is_type_there refl h in reference_in w t there.0 (Ref t) there.1 there.2 (ref_stands t there.0 there.3).0;
      iref = λ t h. let there = written_there (table b) t is_type_there refl h in reference_in w t there.0 (Iref t) there.1 there.2 (ref_stands t there.0 there.3).1;
      funcref = λ t h. let there = written_there (table b) t is_sig refl h in reference_in w t there.0 (FuncRef t) there.1 there.2 (funcref_stands t there.0 there.3);
      bit = record { at = length w + 1; there = head.bit };
      word = record { at = length w + 2; there = head.word };
      stack = record { at = length w + 3; there = head.stack };
      thread = record { at = length w + 4; there = head.thread };
      nothing = head.nothing;
      void = void_in w;
      parts = λ t n k h. part_is_type g b t n k (counted b) h;
    }
  where
    long : (w : List TypeDef) → length w ≤ length (complete w)
    long w =
        let four = Int 1 ∷ Int 32 ∷ StackRef ∷ ThreadRef ∷ [] in
        let refs = references_from 0 (w ++ Void ∷ []) in
        omega (arith, length-append (w ++ Void ∷ [] ++ four) refs, length-append (w ++ Void ∷ []) four, length-append w (Void ∷ []))

not_so : (c : Bool) → not c ≡ true → c ≡ false
not_so true h = cc
not_so false h = refl

pub finite : (b : List Item) → AllMet (name_demands b) → AllMet (check_demands b) → IsFinite (graph b)
unfolding check_demands
finite b named m t l = elim (cases_low t (table b).written) [
  | inr high ↦
      let k : ℕ = t - (table b).written in
      let e : t ≡ (table b).written + k = omega (arith, high) in
      leads_none (graph b) (length (graph b)) t t (ap (λ (n : ℕ). parts_at (slice_get (graph b) n)) e ∙ implied_parts (graph_of (globals_of b) b) k)
  | inl low ↦
      let one = of_kind (passes (graph b) (places_of b) (table b).written) m.0.0 in
      not_so (contains_itself (graph b) t) (from_zero (endless_type (graph b) (places_of b)) t (each_at (endless_type (graph b) (places_of b)) (table b).written 0 t one.1.0 low))
]
