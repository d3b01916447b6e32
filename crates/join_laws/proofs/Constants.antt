-- A joined bundle meets the demands on constants.
use Rattle.std.proofs.Common.{◌≡◌, ℕ, zero, suc, ◌+◌, ◌<◌, Bool, true, ◌&&◌, nat_eq, nat_le, List, [], ◌∷◌, ◌++◌, length, map, Option, Some, slice_get, slice_index, inl, inr, refl, sym, ◌∙◌, ap, subst, append_assoc, arith}
use Rattle.std.proofs.lemmas.Bool.{false≢true}
use Rattle.type_definitions.specs.declared.definition.TypeDef.{TypeDef}
use Rattle.type_definitions.specs.declared.definition.TypeDef.TheVariants.{Int, Struct, Array}
use Rattle.type_definitions.specs.Definition.{constructor, number, arguments}
use Rattle.type_definitions.specs.Same.{same, IsGraph}
use Rattle.kin_laws.specs.Kin.{Kin}
use Rattle.kin_laws.specs.Lemmas.Kin.{kin_decides}
use Rattle.kin_laws.specs.Lemmas.Parts.{AllKin, Defined, defined}
use Rattle.ir_lex.specs.declared.name.Name.{Name}
use Rattle.ir_tree.specs.declared.definitions.Literal.{Literal as WrittenLiteral}
use Rattle.ir_tree.specs.declared.definitions.Literal.TheVariants as written
use Rattle.ir_tree.specs.declared.definitions.Const.{Const}
use Rattle.ir_tree.specs.declared.items.Item.{Item}
use Rattle.ir_tree.specs.declared.items.Item.TheVariants as items
use Rattle.bundle_names.specs.declared.globals.Sort.{Sort}
use Rattle.bundle_names.specs.declared.globals.Sort.TheVariants as sorts
use Rattle.bundle_names.specs.declared.globals.Globals.{Globals}
use Rattle.mu_values.specs.declared.literals.ConstKind.{ConstKind}
use Rattle.check_tables.specs.declared.fault.CheckKind.{CheckKind}
use Rattle.check_tables.specs.declared.fault.CheckKind.TheVariants as checks
use Rattle.check_tables.specs.declared.tables.Tables.{Tables}
use Rattle.demands.specs.Demands.{Demands, none, demand, ◌⨾◌, AllMet, as_kind}
use Rattle.name_scopes.specs.Names.{found}
use Rattle.mu_values.specs.Constants.{width_of, is_reference, member_count, member_type, number_demands, is_count, member_demands, kind_demands, constant_demands}
use Rattle.bundle_names.specs.Globals.{with_item, with_items, no_globals, globals_of}
use Rattle.bundle_names.specs.Uses.{each, constant_use, is_type, is_constant}
use Rattle.bundle_names.specs.ItemUses.{literal_use}
use Rattle.checked_code.specs.Graph.{type_id, places_of_names}
use Rattle.checked_code.specs.Rules.{constant_id, literal_of, constant_types, constants_demands}
use Rattle.checked_code.specs.Checking.{bundle_tables}
use Rattle.checked_code.specs.Entries.{tables_of}
use Rattle.join_laws.proofs.Tests.{IsKept}
use Rattle.join_laws.proofs.Tests.{by_numbers}
use Rattle.join_laws.proofs.Classes.{below, kin_definitions, test_goes}
use Rattle.join_laws.proofs.Numbers.{name_of, sort_of, leads_to}
use Rattle.join_laws.proofs.Alike.{Alike}
use Rattle.join_laws.proofs.Graphs.{In, id_of_type}
use Rattle.join_laws.proofs.Members.{Member, in_of}
use Rattle.join_laws.proofs.Joined.{Like, Represents, uses_in, graph, types_kin, written_type}
use Rattle.join_laws.proofs.Tables.{table, type_stands}
use Rattle.join_laws.proofs.Sorts.{named_in}

-- ---- the types of constants by number

types_split : (g : Globals) (is js : List Item) → constant_types g (is ++ js) ≡ constant_types g is ++ constant_types g js
types_split g [] js = refl
types_split g (items.Const d ∷ is) js = ap (λ (xs : List ℕ). type_id g d.of_type ∷ xs) (types_split g is js)
types_split g (items.Typedef d ∷ is) js = types_split g is js
types_split g (items.Funcsig d ∷ is) js = types_split g is js
types_split g (items.GlobalCell d ∷ is) js = types_split g is js
types_split g (items.Funcdecl d ∷ is) js = types_split g is js
types_split g (items.Funcdef d ∷ is) js = types_split g is js

types_counted : (g h : Globals) (is : List Item) → (with_items g is).counts.constants ≡ g.counts.constants + length (constant_types h is)
types_counted g h [] = omega arith
types_counted g h (items.Const d ∷ is) = omega (arith, types_counted (with_item g (items.Const d)) h is)
types_counted g h (items.Typedef d ∷ is) = types_counted (with_item g (items.Typedef d)) h is
types_counted g h (items.Funcsig d ∷ is) = types_counted (with_item g (items.Funcsig d)) h is
types_counted g h (items.GlobalCell d ∷ is) = types_counted (with_item g (items.GlobalCell d)) h is
types_counted g h (items.Funcdecl d ∷ is) = types_counted (with_item g (items.Funcdecl d)) h is
types_counted g h (items.Funcdef d ∷ is) = types_counted (with_item g (items.Funcdef d)) h is

many_constants : (h : Globals) (is : List Item) → (with_items no_globals is).counts.constants ≡ length (constant_types h is)
many_constants h is = let e : (with_items no_globals is).counts.constants ≡ 0 + length (constant_types h is) = types_counted no_globals h is in omega (arith, e)

index_at : (xs ys : List ℕ) (y : ℕ) → slice_index (xs ++ y ∷ ys) (length xs) ≡ y
index_at [] ys y = refl
index_at (x ∷ xs) ys y = index_at xs ys y

-- the type of a constant by the number of its place, which is low
record TypeOfConstant (b : List Item) (d : Const) (n : ℕ) : Type 0 where
  type : slice_index (constant_types (globals_of b) b) n ≡ type_id (globals_of b) d.of_type
  low : n < (globals_of b).counts.constants

long : (xs ys : List ℕ) (y : ℕ) → length xs < length (xs ++ y ∷ ys)
long [] ys y = omega arith
long (x ∷ xs) ys y = let more = long xs ys y in omega (arith, more)

constant_at : (b before behind : List Item) (d : Const) → b ≡ before ++ items.Const d ∷ behind → TypeOfConstant b d (with_items no_globals before).counts.constants
constant_at b before behind d e =
    let g = globals_of b in
    let same = many_constants g before in
    let all : constant_types g b ≡ constant_types g before ++ type_id g d.of_type ∷ constant_types g behind = ap (constant_types g) e ∙ types_split g before (items.Const d ∷ behind) in
    let less = long (constant_types g before) (constant_types g behind) (type_id g d.of_type) in
    let whole : length (constant_types g b) ≡ length (constant_types g before ++ type_id g d.of_type ∷ constant_types g behind) = ap (λ (xs : List ℕ). length xs) all in
    let many = many_constants g b in
    record {
      type = ap (λ (n : ℕ). slice_index (constant_types g b) n) same ∙ (ap (λ (xs : List ℕ). slice_index xs (length (constant_types g before))) all ∙ index_at (constant_types g before) (constant_types g behind) (type_id g d.of_type));
      low = omega (arith, same, less, whole, many);
    }

-- kin of the types of one name
of_type_kin : (b j : List Item) → Represents b j → (x y : Name) → x.text ≡ y.text → is_type (found (globals_of b).names x.text) ≡ true → Kin (graph b) (graph j) (type_id (globals_of b) x) (type_id (globals_of j) y)
of_type_kin b j r x y e h =
    let t = written_type (found (globals_of b).names x.text) h in
    let u = type_stands b j r x.text t.0 t.1 in
    let there : found (globals_of j).names y.text ≡ Some (sorts.Written u.0) = ap (found (globals_of j).names) (sym e) ∙ u.1 in
    rw (id_of_type b x t.0 t.1, id_of_type j y u.0 there) (types_kin b j r x.text t.0 u.0 t.1 u.1)

constant_one : (m n : ℕ) → sorts.Constant m ≡ sorts.Constant n → m ≡ n
constant_one m n e = cc

id_at : (g : Globals) (c : Name) (n : ℕ) → found g.names c.text ≡ Some (sorts.Constant n) → n < g.counts.constants → constant_id g c ≡ n
id_at g c n h l = rw (h, below n g.counts.constants l) refl

abbrev constant_type : List Item → Name → ℕ
constant_type b c = slice_index (constant_types (globals_of b) b) (constant_id (globals_of b) c)

constant_by : (b j : List Item) → Represents b j → (c : Name) (n : ℕ) → found (globals_of b).names c.text ≡ Some (sorts.Constant n) → (i : Item) (before behind : List Item) → b ≡ before ++ i ∷ behind → c.text ≡ (name_of i).text →
    sorts.Constant n ≡ sort_of (with_items no_globals before) i → Like i j → Kin (graph b) (graph j) (constant_type b c) (constant_type j c)
constant_by b j r c n h (items.Const d) before behind e s k like = by like.item like.there like.alike
  where
    by : (i : Item) → In i j → Alike (items.Const d) i → Kin (graph b) (graph j) (constant_type b c) (constant_type j c)
    by (items.Const x) at a =
        let one = constant_at b before behind d e in
        let other = constant_at j at.before at.behind x at.whole in
        let named : found (globals_of j).names c.text ≡ Some (sorts.Constant (with_items no_globals at.before).counts.constants) = ap (found (globals_of j).names) (s ∙ a.0) ∙ named_in j (items.Const x) r.once at refl in
        let first : found (globals_of b).names c.text ≡ Some (sorts.Constant (with_items no_globals before).counts.constants) = h ∙ ap (λ (m : ℕ). Some (sorts.Constant m)) (constant_one n (with_items no_globals before).counts.constants k) in
        let uses = uses_in b (items.Const d) r.used (record { before = before; behind = behind; whole = e }) in
        rw (id_at (globals_of b) c (with_items no_globals before).counts.constants first one.low, one.type, id_at (globals_of j) c (with_items no_globals at.before).counts.constants named other.low, other.type)
        (of_type_kin b j r d.of_type x.of_type a.1 uses.0.1)
    by (items.Typedef x) at a = absurd a
    by (items.Funcsig x) at a = absurd a
    by (items.GlobalCell x) at a = absurd a
    by (items.Funcdecl x) at a = absurd a
    by (items.Funcdef x) at a = absurd a
constant_by b j r c n h (items.Typedef d) before behind e s k like = cc
constant_by b j r c n h (items.Funcsig d) before behind e s k like = cc
constant_by b j r c n h (items.GlobalCell d) before behind e s k like = cc
constant_by b j r c n h (items.Funcdecl d) before behind e s k like = cc
constant_by b j r c n h (items.Funcdef d) before behind e s k like = cc

written_constant : (o : Option Sort) → is_constant o ≡ true → (n : ℕ) × (o ≡ Some (sorts.Constant n))
written_constant (Some (sorts.Constant n)) h = (n, refl)
written_constant o h = absurd (false≢true h)

constant_kin : (b j : List Item) → Represents b j → (c : Name) → is_constant (found (globals_of b).names c.text) ≡ true → Kin (graph b) (graph j) (constant_type b c) (constant_type j c)
constant_kin b j r c h =
    let n = written_constant (found (globals_of b).names c.text) h in
    elim (leads_to no_globals b c.text (sorts.Constant n.0) n.1) [
      | inl nothing ↦ cc
      | inr at ↦ constant_by b j r c n.0 n.1 at.item at.before at.behind at.whole at.same at.sort (r.each at.item (record { before = at.before; behind = at.behind; whole = at.whole }))
    ]

-- ---- literals

references : (d : TypeDef) → is_reference (Some d) ≡ (nat_le 5 (constructor d) && nat_le (constructor d) 9)
references (Int w) = refl
references d = refl

reference_kept : IsKept is_reference
reference_kept = by_numbers is_reference (λ c n. nat_le 5 c && nat_le c 9) refl references

number_goes : (c d : TypeDef) (place : ℕ) (negative : Bool) (magnitude : ℕ) → constructor c ≡ constructor d → number c ≡ number d → AllMet (number_demands place (width_of (Some c)) negative magnitude) → AllMet (number_demands place (width_of (Some d)) negative magnitude)
number_goes (Int v) (Int w) place negative magnitude k n m = subst (λ (x : ℕ). AllMet (number_demands place (Some x) negative magnitude)) n m
number_goes (Int v) d place negative magnitude k n m = absurd (omega (arith, k))
number_goes c d place negative magnitude k n m = absurd (false≢true m)

count_goes : (b j : List Item) (c d : TypeDef) (n : ℕ) → constructor c ≡ constructor d → number c ≡ number d → AllKin (graph b) (graph j) (arguments c) (arguments d) → is_count (member_count (Some c)) n ≡ true → is_count (member_count (Some d)) n ≡ true
count_goes b j (Struct xs) (Struct ys) n k e m h = subst (λ (x : ℕ). nat_eq x n ≡ true) (many xs ys m) h
  where
    many : (xs ys : List ℕ) → AllKin (graph b) (graph j) xs ys → length xs ≡ length ys
    many [] [] m = refl
    many (v ∷ xs) (w ∷ ys) m = ap (λ (n : ℕ). suc n) (many xs ys m.1)
    many [] (w ∷ ys) m = absurd m
    many (v ∷ xs) [] m = absurd m
count_goes b j (Array x s) (Array y t) n k e m h = subst (λ (x : ℕ). nat_eq x n ≡ true) e h
count_goes b j (Struct xs) d n k e m h = absurd (omega (arith, k))
count_goes b j (Array x s) d n k e m h = absurd (omega (arith, k))
count_goes b j c d n k e m h = absurd (false≢true h)

-- how many members may stand after member k
abbrev InCount : TypeDef → ℕ → Type 0
InCount (Struct xs) n = n ≡ length xs
InCount d n = Unit {0}

member_kin : (b j : List Item) (c d : TypeDef) (k many : ℕ) → constructor c ≡ constructor d → AllKin (graph b) (graph j) (arguments c) (arguments d) → is_count (member_count (Some c)) many ≡ true → k < many → Kin (graph b) (graph j) (member_type (Some c) k) (member_type (Some d) k)
member_kin b j (Struct xs) (Struct ys) k many e m h l = by xs ys k (low (length xs) many h l) m
  where
    low : (a many : ℕ) → nat_eq a many ≡ true → k < many → k < a
    low a many h l = grind (arith, h, l)

    by : (xs ys : List ℕ) (k : ℕ) → k < length xs → AllKin (graph b) (graph j) xs ys → Kin (graph b) (graph j) (slice_index xs k) (slice_index ys k)
    by [] ys k l m = absurd (omega (arith, l))
    by (v ∷ xs) (w ∷ ys) zero l m = m.0
    by (v ∷ xs) (w ∷ ys) (suc k) l m = by xs ys k (omega (arith, l)) m.1
    by (v ∷ xs) [] k l m = absurd m
member_kin b j (Array x s) (Array y t) k many e m h l = m.0
member_kin b j (Struct xs) d k many e m h l = absurd (omega (arith, e))
member_kin b j (Array x s) d k many e m h l = absurd (omega (arith, e))
member_kin b j c d k many e m h l = absurd (false≢true h)

index_of : (g : Globals) (cs : List Name) (before : List Name) (c : Name) → slice_index (map (constant_id g) (before ++ c ∷ cs)) (length before) ≡ constant_id g c
index_of g cs [] c = refl
index_of g cs (x ∷ before) c = index_of g cs before c

abbrev members : List Item → List Name → List ℕ
members b cs = map (constant_id (globals_of b)) cs

-- the members from one on, which stand after others
members_go : (b j : List Item) → Represents b j → IsGraph (graph b) → IsGraph (graph j) → (c d : TypeDef) → constructor c ≡ constructor d → AllKin (graph b) (graph j) (arguments c) (arguments d) → (before cs : List Name) (places : List ℕ) →
    is_count (member_count (Some c)) (length before + length cs) ≡ true → AllMet (each (constant_use (globals_of b).names) cs) →
    AllMet (member_demands (graph b) (constant_types (globals_of b) b) (Some c) (members b (before ++ cs)) places (length cs) (length before)) →
    AllMet (member_demands (graph j) (constant_types (globals_of j) j) (Some d) (members j (before ++ cs)) places (length cs) (length before))
members_go b j r i o c d e m before [] places h u met = tt
members_go b j r i o c d e m before (x ∷ cs) places h u met =
    let k = length before in
    let one = index_of (globals_of b) cs before x in
    let other = index_of (globals_of j) cs before x in
    let low : k < k + suc (length cs) = omega arith in
    let asked : same (graph b) (slice_index (constant_types (globals_of b) b) (constant_id (globals_of b) x)) (member_type (Some c) k) ≡ true =
    subst (λ (n : ℕ). same (graph b) (slice_index (constant_types (globals_of b) b) n) (member_type (Some c) k) ≡ true) one met.0 in
    let whole : (before ++ x ∷ []) ++ cs ≡ before ++ x ∷ cs = append_assoc before (x ∷ []) cs in
    let longer : length (before ++ x ∷ []) ≡ suc k = more before x in (
      subst (λ (n : ℕ). same (graph j) (slice_index (constant_types (globals_of j) j) n) (member_type (Some d) k) ≡ true) (sym other)
          (kin_decides (graph b) (graph j) i o (constant_type b x) (member_type (Some c) k) (constant_type j x) (member_type (Some d) k) asked (constant_kin b j r x u.0.1)
          (member_kin b j c d k (k + suc (length cs)) e m h low)),
      subst (λ (n : ℕ). AllMet (member_demands (graph j) (constant_types (globals_of j) j) (Some d) (members j (before ++ x ∷ cs)) places (length cs) n)) longer
          (subst (λ (ns : List Name). AllMet (member_demands (graph j) (constant_types (globals_of j) j) (Some d) (members j ns) places (length cs) (length (before ++ x ∷ [])))) whole
          (members_go b j r i o c d e m (before ++ x ∷ []) cs places
          (let same_count : k + suc (length cs) ≡ length (before ++ x ∷ []) + length cs = omega (arith, longer) in subst (λ (n : ℕ). is_count (member_count (Some c)) n ≡ true) same_count h) u.1
          (subst (λ (ns : List Name). AllMet (member_demands (graph b) (constant_types (globals_of b) b) (Some c) (members b ns) places (length cs) (length (before ++ x ∷ [])))) (sym whole)
          (subst (λ (n : ℕ). AllMet (member_demands (graph b) (constant_types (globals_of b) b) (Some c) (members b (before ++ x ∷ cs)) places (length cs) n)) (sym longer) met.1)))),
    )
  where
    more : (ns : List Name) (x : Name) → length (ns ++ x ∷ []) ≡ suc (length ns)
    more [] x = refl
    more (n ∷ ns) x = ap (λ (k : ℕ). suc k) (more ns x)

many_members : (g : Globals) (cs : List Name) → length (map (constant_id g) cs) ≡ length cs
many_members g [] = refl
many_members g (c ∷ cs) = ap (λ (n : ℕ). suc n) (many_members g cs)

literal_goes : (b j : List Item) → Represents b j → IsGraph (graph b) → IsGraph (graph j) → (n : Name) (l : WrittenLiteral) → is_type (found (globals_of b).names n.text) ≡ true → AllMet (literal_use (globals_of b).names l) →
    AllMet (constant_demands (graph b) (constant_types (globals_of b) b) (type_id (globals_of b) n) (literal_of (globals_of b) l)) → AllMet (constant_demands (graph j) (constant_types (globals_of j) j) (type_id (globals_of j) n) (literal_of (globals_of j) l))
literal_goes b j r i o n l t u m =
    let d = defined (graph b) (graph j) (type_id (globals_of b) n) (type_id (globals_of j) n) (of_type_kin b j r n n refl t) in
    by d l u m
  where
    by : (d : Defined (graph b) (graph j) (type_id (globals_of b) n) (type_id (globals_of j) n)) (l : WrittenLiteral) → AllMet (literal_use (globals_of b).names l) →
        AllMet (constant_demands (graph b) (constant_types (globals_of b) b) (type_id (globals_of b) n) (literal_of (globals_of b) l)) → AllMet (constant_demands (graph j) (constant_types (globals_of j) j) (type_id (globals_of j) n) (literal_of (globals_of j) l))
    by d (written.Number x) u m =
        subst (λ (s : Option TypeDef). AllMet (number_demands x.place (width_of s) x.number.negative x.number.magnitude)) (sym d.at_other)
        (number_goes d.one d.other x.place x.number.negative x.number.magnitude d.kind d.sized (subst (λ (s : Option TypeDef). AllMet (number_demands x.place (width_of s) x.number.negative x.number.magnitude)) d.at_one m))
    by d (written.Null place) u m =
        test_goes (table b) (table j) is_reference reference_kept (slice_get (graph b) (type_id (globals_of b) n)) (slice_get (graph j) (type_id (globals_of j) n))
        (kin_definitions (table b) (table j) (type_id (globals_of b) n) (type_id (globals_of j) n) (of_type_kin b j r n n refl t)) m
    by d (written.Members place cs) u m =
        let zeroed : AllMet (kind_demands (graph b) (constant_types (globals_of b) b) (Some d.one) place (literal_of (globals_of b) (written.Members place cs)).kind) =
        subst (λ (s : Option TypeDef). AllMet (kind_demands (graph b) (constant_types (globals_of b) b) s place (literal_of (globals_of b) (written.Members place cs)).kind)) d.at_one m in
        let one = many_members (globals_of b) cs in
        let other = many_members (globals_of j) cs in
        let places = places_of_names cs in
        let counted : is_count (member_count (Some d.one)) (length cs) ≡ true = subst (λ (k : ℕ). is_count (member_count (Some d.one)) k ≡ true) one zeroed.0 in
        subst (λ (s : Option TypeDef). AllMet (kind_demands (graph j) (constant_types (globals_of j) j) s place (literal_of (globals_of j) (written.Members place cs)).kind)) (sym d.at_other) (
          subst (λ (k : ℕ). is_count (member_count (Some d.other)) k ≡ true) (sym other) (count_goes b j d.one d.other (length cs) d.kind d.sized d.args counted),
          subst (λ (k : ℕ). AllMet (member_demands (graph j) (constant_types (globals_of j) j) (Some d.other) (members j cs) places k 0)) (sym other)
              (members_go b j r i o d.one d.other d.kind d.args [] cs places (let z : length cs ≡ 0 + length cs = omega arith in subst (λ (k : ℕ). is_count (member_count (Some d.one)) k ≡ true) z counted) u
              (subst (λ (k : ℕ). AllMet (member_demands (graph b) (constant_types (globals_of b) b) (Some d.one) (members b cs) places k 0)) one zeroed.1)),
        )

-- ---- all of them

const_kind : (ds : Demands ConstKind) → AllMet (as_kind {L = CheckKind} checks.Const ds) → AllMet ds
const_kind none m = tt
const_kind (demand place kind met) m = m
const_kind (a ⨾ b) m = (const_kind a m.0, const_kind b m.1)

to_const_kind : (ds : Demands ConstKind) → AllMet ds → AllMet (as_kind {L = CheckKind} checks.Const ds)
to_const_kind none m = tt
to_const_kind (demand place kind met) m = m
to_const_kind (a ⨾ b) m = (to_const_kind a m.0, to_const_kind b m.1)

abbrev pub ConstantMet : Tables → List ℕ → Const → Type 0
ConstantMet p types d = AllMet (constant_demands p.types.definitions types (type_id p.globals d.of_type) (literal_of p.globals d.literal))

const_one : (c d : Const) → items.Const d ≡ items.Const c → c ≡ d
const_one c d e = cc

pub constant_met_of : (p : Tables) (types : List ℕ) (is : List Item) (d : Const) → AllMet (constants_demands p types is) → Member (items.Const d) is → ConstantMet p types d
constant_met_of p types [] d m e = absurd e
constant_met_of p types (items.Const c ∷ is) d m (inl e) = subst (λ (x : Const). ConstantMet p types x) (const_one c d e) (const_kind (constant_demands p.types.definitions types (type_id p.globals c.of_type) (literal_of p.globals c.literal)) m.0)
constant_met_of p types (items.Const c ∷ is) d m (inr e) = constant_met_of p types is d m.1 e
constant_met_of p types (items.Typedef c ∷ is) d m (inl e) = cc
constant_met_of p types (items.Typedef c ∷ is) d m (inr e) = constant_met_of p types is d m e
constant_met_of p types (items.Funcsig c ∷ is) d m (inl e) = cc
constant_met_of p types (items.Funcsig c ∷ is) d m (inr e) = constant_met_of p types is d m e
constant_met_of p types (items.GlobalCell c ∷ is) d m (inl e) = cc
constant_met_of p types (items.GlobalCell c ∷ is) d m (inr e) = constant_met_of p types is d m e
constant_met_of p types (items.Funcdecl c ∷ is) d m (inl e) = cc
constant_met_of p types (items.Funcdecl c ∷ is) d m (inr e) = constant_met_of p types is d m e
constant_met_of p types (items.Funcdef c ∷ is) d m (inl e) = cc
constant_met_of p types (items.Funcdef c ∷ is) d m (inr e) = constant_met_of p types is d m e

pub constants_all : (q : Tables) (types : List ℕ) (is : List Item) → ((d : Const) → Member (items.Const d) is → ConstantMet q types d) → AllMet (constants_demands q types is)
constants_all q types [] f = tt
constants_all q types (items.Const d ∷ is) f = (to_const_kind (constant_demands q.types.definitions types (type_id q.globals d.of_type) (literal_of q.globals d.literal)) (f d (inl refl)), constants_all q types is (λ c m. f c (inr m)))
constants_all q types (items.Typedef d ∷ is) f = constants_all q types is (λ c m. f c (inr m))
constants_all q types (items.Funcsig d ∷ is) f = constants_all q types is (λ c m. f c (inr m))
constants_all q types (items.GlobalCell d ∷ is) f = constants_all q types is (λ c m. f c (inr m))
constants_all q types (items.Funcdecl d ∷ is) f = constants_all q types is (λ c m. f c (inr m))
constants_all q types (items.Funcdef d ∷ is) f = constants_all q types is (λ c m. f c (inr m))

-- a constant that a bundle has meets its demands in the joined one
pub constant_met_goes : (b j : List Item) → Represents b j → IsGraph (graph b) → IsGraph (graph j) → (d : Const) → Member (items.Const d) b → ConstantMet (bundle_tables b) (constant_types (globals_of b) b) d → ConstantMet (bundle_tables j) (constant_types (globals_of j) j) d
unfolding tables_of
constant_met_goes b j r i o d e m =
    let uses = uses_in b (items.Const d) r.used (in_of (items.Const d) b e) in
    literal_goes b j r i o d.of_type d.literal uses.0.1 uses.1 m
