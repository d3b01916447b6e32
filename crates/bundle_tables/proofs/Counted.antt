-- The definitions of a bundle's types are a graph.
use Rattle.std.proofs.Common.{◌≡◌, ℕ, ◌+◌, List, [], length, sym, ◌∙◌, ap, rules}
use Rattle.ir_tree.specs.declared.items.Item.{Item}
use Rattle.type_definitions.specs.declared.definition.TypeDef.{TypeDef}
use Rattle.type_definitions.specs.Same.{IsGraph}
use Rattle.bundle_names.specs.declared.globals.Globals.{Globals}
use Rattle.bundle_names.specs.Globals.{globals_of}
use Rattle.checked_code.specs.Graph.{graph_of}
use Rattle.checked_code.specs.Lemmas.Counted.{graph_counted}
use Rattle.bundle_tables.specs.Inner.{AllBelow}

pub is_graph : (g : Globals) (is : List Item) (ds : List TypeDef) → g ≡ globals_of is → ds ≡ graph_of g is → AllBelow (g.counts.written + g.counts.signatures) ds → IsGraph ds
is_graph g is ds e same below =
    let count : g.counts.written + g.counts.signatures ≡ length ds = graph_counted g is e ∙ ap (λ (l : List TypeDef). length l) (sym same) in
    rw count at below

pub none_below : (many : ℕ) (ds : List TypeDef) → ds ≡ [] → AllBelow many ds
none_below many ds e = rw e (search rules)
