-- What the values that are made are, as a list.
use Rattle.std.specs.Prelude.{option_map}
use Rattle.std.proofs.Common.{◌≡◌, ℕ, zero, suc, ◌<◌, List, [], ◌∷◌, length, map, Option, Some, None, slice_get, Result, Ok, Err, IfOk, refl, sym, ◌∙◌, ap, subst, arith}
use Rattle.std.proofs.lemmas.List.{length-map}
use Rattle.std.proofs.lemmas.Option.{slice_get-map}
use Rattle.demands.specs.Demands.{first_unmet}
use Rattle.ir_tree.specs.declared.items.Item.{Item}
use Rattle.ir_tree.specs.declared.items.Item.TheVariants as items
use Rattle.type_definitions.specs.declared.definition.TypeDef.{TypeDef}
use Rattle.mu_values.specs.declared.scalars.Scalar.{Scalar}
use Rattle.mu_values.specs.Constants.{constant_value}
use Rattle.mu_base.specs.Lists.{Roomy}
use Rattle.mu_types.specs.Graph.{Table}
use Rattle.mu_types.specs.Implied.{complete}
use Rattle.bundle_names.specs.declared.globals.Globals.{Globals}
use Rattle.bundle_names.specs.Globals.{globals_of}
use Rattle.check_tables.specs.declared.tables.Tables.{Tables}
use Rattle.checked_code.specs.Graph.{graph_of, table_of}
use Rattle.checked_code.specs.Entries.{constant_entries, tables_of}
use Rattle.checked_code.specs.Rules.{item_demands}
use Rattle.checked_code.specs.declared.constants.Constant.{Constant}
use Rattle.checked_code.specs.ConstantValues.{told, values_to}
use Rattle.checked_code.specs.Constants.{constants_of, constant_values}
use Rattle.checked_code.specs.ConstantMembers.{value_of, Lawful}
use Rattle.checked_code.specs.Lemmas.ConstantMembers.{settled}
use Rattle.checked_code.specs.Lemmas.ConstantsAccepted.{complete_long, accepted}

-- the tables and the constants of a bundle that are held, and the bundle that they are of
pub record AreHeld (p : Tables) (is : List Item) (ds : List TypeDef) (cs : List Constant) : Type 0 where
  pub globals : p.globals ≡ globals_of is
  pub tables : p ≡ tables_of p.globals is
  pub met : first_unmet (item_demands p.globals is) ≡ None
  pub types : ds ≡ p.types.definitions
  pub constants : cs ≡ constants_of p.globals is

lawful_bundle : (p : Tables) (is : List Item) (ds : List TypeDef) (cs : List Constant) → AreHeld p is ds cs → Lawful p.types.definitions (constants_of p.globals is)
lawful_bundle p is ds cs h = subst (λ (q : Tables). Lawful q.types.definitions (constants_of p.globals is)) (sym h.tables) (accepted p.globals is h.globals h.met)

pub lawful_held : (p : Tables) (is : List Item) (ds : List TypeDef) (cs : List Constant) → AreHeld p is ds cs → Lawful ds cs
lawful_held p is ds cs h =
    subst (λ (g : List TypeDef). Lawful g cs) (sym h.types)
    (subst (λ (ks : List Constant). Lawful p.types.definitions ks) (sym h.constants) (lawful_bundle p is ds cs h))

all_same : (us vs : List (List Scalar)) → length us ≡ length vs → ((n : ℕ) → n < length vs → told us n ≡ told vs n) → us ≡ vs
all_same [] [] e f = refl
all_same [] (v ∷ vs) e f = absurd (omega (arith, e))
all_same (u ∷ us) [] e f = absurd (omega (arith, e))
all_same (u ∷ us) (v ∷ vs) e f = rw (f 0 (omega arith), all_same us vs (omega (arith, e)) (λ n l. f (suc n) (omega arith))) refl

pub values_held : (p : Tables) (is : List Item) (ds : List TypeDef) (cs : List Constant) → AreHeld p is ds cs → (many : ℕ) → many ≡ length cs → (of : ℕ → List Scalar) →
    ((n : ℕ) → n < many → of n ≡ value_of ds cs n) →
    (us : List (List Scalar)) → length us ≡ many → ((n : ℕ) → n < many → told us n ≡ of n) → us ≡ constant_values p is
values_held p is ds cs h many e of right us count same =
    let long : length (values_to ds cs (length ds)) ≡ length cs =
    ap (λ (vs : List (List Scalar)). length vs) (settled ds cs (lawful_held p is ds cs h))
    ∙ length-map cs (λ (c : Constant). constant_value ds (told (values_to ds cs (length ds))) c.of_type c.literal) in
    all_same us (values_to ds cs (length ds)) (count ∙ e ∙ sym long) (λ n l. same n (omega (arith, l, long, e)) ∙ right n (omega (arith, l, long, e)))
    ∙ ap (λ (ds : List TypeDef). values_to ds cs (length ds)) h.types
    ∙ ap (λ (ks : List Constant). values_to p.types.definitions ks (length p.types.definitions)) h.constants

pub if_ok : {A E : Type 0} (P Q R : A → Type 0) (r : Result A E) → IfOk r P → IfOk r Q → ((x : A) → P x → Q x → R x) → IfOk r R
if_ok P Q R (Ok x) p q f = f x p q
if_ok P Q R (Err e) p q f = tt

-- ---- how many there are

entered : (t : Table) (g : Globals) (is : List Item) → length (constant_entries t g is) ≡ length (constants_of g is)
entered t g [] = refl
entered t g (items.Typedef d ∷ is) = entered t g is
entered t g (items.Funcsig d ∷ is) = entered t g is
entered t g (items.Const d ∷ is) = let h = entered t g is in omega (arith, h)
entered t g (items.GlobalCell d ∷ is) = entered t g is
entered t g (items.Funcdecl d ∷ is) = entered t g is
entered t g (items.Funcdef d ∷ is) = entered t g is

some_deep : (g : List TypeDef) (cs : List Constant) (depth : ℕ) → 0 < depth → length (values_to g cs depth) ≡ length cs
unfolding values_to
some_deep g cs zero l = absurd (omega arith)
some_deep g cs (suc d) l = length-map cs (λ (c : Constant). constant_value g (told (values_to g cs d)) c.of_type c.literal)

-- the values are as many as the constants
pub as_many : (g : Globals) (is : List Item) → length (constant_values (tables_of g is) is) ≡ length (tables_of g is).constants
unfolding tables_of
as_many g is =
    let long = complete_long (graph_of g is) in
    some_deep (complete (graph_of g is)) (constants_of g is) (length (complete (graph_of g is))) (omega (arith, long)) ∙ sym (entered (table_of g is) g is)

-- one of some values, by the list of their scalars
pub value_there : (values : List (Roomy Scalar)) (all : List (List Scalar)) (n : ℕ) (v : Roomy Scalar) → map (λ (x : Roomy Scalar). x.members) values ≡ all → slice_get values n ≡ Some v → slice_get all n ≡ Some v.members
value_there values all n v e h =
    subst (λ (vs : List (List Scalar)). slice_get vs n ≡ Some v.members) e
    (slice_get-map (λ (x : Roomy Scalar). x.members) values n ∙ ap (λ (o : Option (Roomy Scalar)). option_map (λ (x : Roomy Scalar). x.members) o) h)
