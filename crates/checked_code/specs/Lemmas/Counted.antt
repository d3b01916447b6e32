-- The counts of names are the numbers of items.
use Rattle.std.proofs.Common.{◌≡◌, ℕ, ◌+◌, ◌≤◌, List, [], ◌∷◌, ◌++◌, length, map, sym, ◌∙◌, ap, arith}
use Rattle.std.proofs.lemmas.List.{length-append}
use Rattle.ir_tree.specs.declared.items.Item.{Item}
use Rattle.ir_tree.specs.declared.items.Item.TheVariants as items
use Rattle.type_definitions.specs.declared.definition.TypeDef.{TypeDef}
use Rattle.type_definitions.specs.declared.definition.TypeDef.TheVariants.{Int, Void, StackRef, ThreadRef}
use Rattle.mu_types.specs.Graph.{Table}
use Rattle.mu_types.specs.Implied.{complete, references_from}
use Rattle.bundle_names.specs.declared.globals.Globals.{Globals}
use Rattle.bundle_names.specs.Globals.{with_item, with_items, no_globals, globals_of}
use Rattle.checked_code.specs.Graph.{types_of, signatures_of, graph_of, table_of}
use Rattle.checked_code.specs.Rules.{constant_types}

plain : (m n : ℕ) → m ≡ 0 + n → m ≡ n
plain m n e = omega (arith, e)

written_counted : (g h : Globals) (is : List Item) → (with_items g is).counts.written ≡ g.counts.written + length (types_of h is)
written_counted g h [] = omega arith
written_counted g h (items.Typedef d ∷ is) = omega (arith, written_counted (with_item g (items.Typedef d)) h is)
written_counted g h (items.Funcsig d ∷ is) = written_counted (with_item g (items.Funcsig d)) h is
written_counted g h (items.Const d ∷ is) = written_counted (with_item g (items.Const d)) h is
written_counted g h (items.GlobalCell d ∷ is) = written_counted (with_item g (items.GlobalCell d)) h is
written_counted g h (items.Funcdecl d ∷ is) = written_counted (with_item g (items.Funcdecl d)) h is
written_counted g h (items.Funcdef d ∷ is) = written_counted (with_item g (items.Funcdef d)) h is

signatures_counted : (g h : Globals) (is : List Item) → (with_items g is).counts.signatures ≡ g.counts.signatures + length (signatures_of h is)
signatures_counted g h [] = omega arith
signatures_counted g h (items.Typedef d ∷ is) = signatures_counted (with_item g (items.Typedef d)) h is
signatures_counted g h (items.Funcsig d ∷ is) = omega (arith, signatures_counted (with_item g (items.Funcsig d)) h is)
signatures_counted g h (items.Const d ∷ is) = signatures_counted (with_item g (items.Const d)) h is
signatures_counted g h (items.GlobalCell d ∷ is) = signatures_counted (with_item g (items.GlobalCell d)) h is
signatures_counted g h (items.Funcdecl d ∷ is) = signatures_counted (with_item g (items.Funcdecl d)) h is
signatures_counted g h (items.Funcdef d ∷ is) = signatures_counted (with_item g (items.Funcdef d)) h is

constants_counted_from : (g h : Globals) (is : List Item) → (with_items g is).counts.constants ≡ g.counts.constants + length (constant_types h is)
constants_counted_from g h [] = omega arith
constants_counted_from g h (items.Typedef d ∷ is) = constants_counted_from (with_item g (items.Typedef d)) h is
constants_counted_from g h (items.Funcsig d ∷ is) = constants_counted_from (with_item g (items.Funcsig d)) h is
constants_counted_from g h (items.Const d ∷ is) = omega (arith, constants_counted_from (with_item g (items.Const d)) h is)
constants_counted_from g h (items.GlobalCell d ∷ is) = constants_counted_from (with_item g (items.GlobalCell d)) h is
constants_counted_from g h (items.Funcdecl d ∷ is) = constants_counted_from (with_item g (items.Funcdecl d)) h is
constants_counted_from g h (items.Funcdef d ∷ is) = constants_counted_from (with_item g (items.Funcdef d)) h is

-- the constants are as many as their types
pub constants_counted : (g : Globals) (is : List Item) → g ≡ globals_of is → g.counts.constants ≡ length (constant_types g is)
constants_counted g is e = ap (λ (k : Globals). k.counts.constants) e ∙ plain (globals_of is).counts.constants (length (constant_types g is)) (constants_counted_from no_globals g is)

-- the graph has as many definitions as there are types and signatures
pub graph_counted : (g : Globals) (is : List Item) → g ≡ globals_of is → g.counts.written + g.counts.signatures ≡ length (graph_of g is)
graph_counted g is e =
    let types : g.counts.written ≡ length (types_of g is) = ap (λ (k : Globals). k.counts.written) e ∙ plain (globals_of is).counts.written (length (types_of g is)) (written_counted no_globals g is) in
    let signatures : g.counts.signatures ≡ length (signatures_of g is) = ap (λ (k : Globals). k.counts.signatures) e ∙ plain (globals_of is).counts.signatures (length (signatures_of g is)) (signatures_counted no_globals g is) in
    ap (λ (n : ℕ). n + g.counts.signatures) types
    ∙ ap (λ (n : ℕ). length (types_of g is) + n) signatures
    ∙ sym (length-append (types_of g is) (signatures_of g is))

complete_longer : (ds : List TypeDef) → length ds ≤ length (complete ds)
complete_longer ds =
    let front : length (ds ++ Void ∷ [] ++ Int 1 ∷ Int 32 ∷ StackRef ∷ ThreadRef ∷ []) ≡ length (ds ++ Void ∷ []) + 4 = length-append (ds ++ Void ∷ []) (Int 1 ∷ Int 32 ∷ StackRef ∷ ThreadRef ∷ []) in
    omega (arith, front, length-append ds (Void ∷ []), length-append (ds ++ Void ∷ [] ++ Int 1 ∷ Int 32 ∷ StackRef ∷ ThreadRef ∷ []) (references_from 0 (ds ++ Void ∷ [])))

-- the types are numbered within the table
pub written_within : (g : Globals) (is : List Item) (p : Table) → p ≡ table_of g is → g ≡ globals_of is → g.counts.written ≤ length p.definitions
written_within g is p f e =
    let same : length p.definitions ≡ length (complete (graph_of g is)) = ap (λ (q : Table). length q.definitions) f in
    omega (arith, same, graph_counted g is e, complete_longer (graph_of g is))
