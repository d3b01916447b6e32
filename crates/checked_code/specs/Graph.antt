-- The graph of the types and signatures of a bundle. Types stand there first, then signatures, each in text order.
use Rattle.std.specs.Prelude.{ℕ, ◌+◌, List, [], ◌∷◌, ◌++◌, Option, Some, None, map, length, nat_lt, if◌then◌else◌}
use Rattle.demands.specs.Demands.{Demands, as_kind}
use Rattle.name_scopes.specs.Names.{found}
use Rattle.ir_lex.specs.declared.name.Name.{Name}
use Rattle.ir_lex.specs.declared.token.Number.{Number}
use Rattle.ir_tree.specs.declared.definitions.TypeForm.{TypeForm}
use Rattle.ir_tree.specs.declared.definitions.TypeForm.TheVariants as written
use Rattle.ir_tree.specs.declared.items.Item.{Item}
use Rattle.ir_tree.specs.declared.items.Item.TheVariants as items
use Rattle.type_definitions.specs.declared.definition.TypeDef.{TypeDef}
use Rattle.type_definitions.specs.declared.definition.TypeDef.TheVariants.{Int, Struct, Array, Hybrid, Void, Ref, Iref, FuncRef, StackRef, ThreadRef, Sig}
use Rattle.mu_types.specs.Graph.{Table}
use Rattle.mu_types.specs.Implied.{complete}
use Rattle.mu_types.specs.TypeDemands.{passes}
use Rattle.bundle_names.specs.declared.globals.Globals.{Globals}
use Rattle.check_tables.specs.declared.fault.CheckKind.{CheckKind}
use Rattle.check_tables.specs.declared.fault.CheckKind.TheVariants.{Types}
use Rattle.check_tables.specs.Lookups.{written_number, signature_number}

-- ---- numbers; a name that is not there, which the names of the bundle rule out, has the number 0

abbrev pub within : ℕ → Option ℕ → ℕ
within many None = 0
within many (Some n) = if nat_lt n many then n else 0

abbrev pub type_id : Globals → Name → ℕ
type_id g n = within g.counts.written (written_number (found g.names n.text))

abbrev pub type_ids : Globals → List Name → List ℕ
type_ids g ns = map (type_id g) ns

abbrev pub signature_id : Globals → Name → ℕ
signature_id g n = g.counts.written + within g.counts.signatures (signature_number (found g.names n.text))

-- a number as it is written, where a negative one counts as 0
abbrev pub size_of : Number → ℕ
size_of n = if n.negative then 0 else n.magnitude

-- ---- definitions

abbrev pub type_definition : Globals → TypeForm → TypeDef
type_definition g (written.Int w) = Int (size_of w.number)
type_definition g (written.Struct fields) = Struct (type_ids g fields)
type_definition g (written.Array element size) = Array (type_id g element) (size_of size.number)
type_definition g (written.Hybrid fixed element) = Hybrid (type_ids g fixed) (type_id g element)
type_definition g written.Void = Void
type_definition g (written.Ref t) = Ref (type_id g t)
type_definition g (written.Iref t) = Iref (type_id g t)
type_definition g (written.Funcref s) = FuncRef (signature_id g s)
type_definition g written.Stackref = StackRef
type_definition g written.Threadref = ThreadRef

abbrev pub types_of : Globals → List Item → List TypeDef
types_of g [] = []
types_of g (items.Typedef d ∷ is) = type_definition g d.form ∷ types_of g is
types_of g (_ ∷ is) = types_of g is

abbrev pub signatures_of : Globals → List Item → List TypeDef
signatures_of g [] = []
signatures_of g (items.Funcsig d ∷ is) = Sig (type_ids g d.takes) (type_ids g d.gives) ∷ signatures_of g is
signatures_of g (_ ∷ is) = signatures_of g is

abbrev pub graph_of : Globals → List Item → List TypeDef
graph_of g bundle = types_of g bundle ++ signatures_of g bundle

-- the types of a bundle: what is written, and what every graph has besides
abbrev pub table_of : Globals → List Item → Table
table_of g bundle = record { definitions = complete (graph_of g bundle); written = length (graph_of g bundle) }

-- ---- places: that of the name, then that of each argument

abbrev pub places_of_names : List Name → List ℕ
places_of_names ns = map (λ (n : Name). n.place) ns

abbrev pub argument_places : TypeForm → List ℕ
argument_places (written.Int w) = w.place ∷ []
argument_places (written.Struct fields) = places_of_names fields
argument_places (written.Array element size) = element.place ∷ size.place ∷ []
argument_places (written.Hybrid fixed element) = places_of_names fixed ++ element.place ∷ []
argument_places (written.Ref t) = t.place ∷ []
argument_places (written.Iref t) = t.place ∷ []
argument_places (written.Funcref s) = s.place ∷ []
argument_places _ = []

abbrev pub type_places : List Item → List (List ℕ)
type_places [] = []
type_places (items.Typedef d ∷ is) = (d.name.place ∷ argument_places d.form) ∷ type_places is
type_places (_ ∷ is) = type_places is

abbrev pub signature_places : List Item → List (List ℕ)
signature_places [] = []
signature_places (items.Funcsig d ∷ is) = (d.name.place ∷ places_of_names d.takes ++ places_of_names d.gives) ∷ signature_places is
signature_places (_ ∷ is) = signature_places is

abbrev pub places_of : List Item → List (List ℕ)
places_of bundle = type_places bundle ++ signature_places bundle

-- ---- demands: those on a graph of written types, in three passes

abbrev pub type_demands : Globals → List Item → Demands CheckKind
type_demands g bundle = as_kind Types (passes (complete (graph_of g bundle)) (places_of bundle) (length (graph_of g bundle)))
