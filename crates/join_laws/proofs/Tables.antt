-- The tables of a bundle each of whose items is in another one, alike, stand for those of the other.
use Rattle.std.proofs.Common.{◌≡◌, ℕ, suc, ◌<◌, true, List, [], ◌∷◌, ◌++◌, length, Option, Some, slice_get, is_some, option_and_then, inl, inr, refl, sym, ◌∙◌, ap, arith}
use Rattle.std.proofs.lemmas.List.{length-append}
use Rattle.type_definitions.specs.declared.definition.TypeDef.TheVariants.{Sig}
use Rattle.ir_lex.specs.declared.name.Name.{Name}
use Rattle.ir_tree.specs.declared.definitions.Funcsig.{Funcsig}
use Rattle.ir_tree.specs.declared.items.Item.{Item}
use Rattle.ir_tree.specs.declared.items.Item.TheVariants as items
use Rattle.bundle_names.specs.declared.globals.Sort.{Sort}
use Rattle.bundle_names.specs.declared.globals.Sort.TheVariants as sorts
use Rattle.bundle_names.specs.declared.globals.Globals.{Globals}
use Rattle.check_tables.specs.declared.tables.Signature.{Signature}
use Rattle.mu_types.specs.Graph.{Table}
use Rattle.demands.specs.Demands.{AllMet}
use Rattle.name_scopes.specs.Names.{found}
use Rattle.bundle_names.specs.Globals.{with_items, no_globals, globals_of}
use Rattle.bundle_names.specs.Uses.{is_type, type_uses}
use Rattle.check_tables.specs.Types.{class_at, class_in, definition_at, funcref_at, is_sig}
use Rattle.check_tables.specs.Lookups.{written_number, signature_number}
use Rattle.checked_code.specs.Graph.{type_ids, types_of, signatures_of, table_of}
use Rattle.checked_code.specs.Entries.{noted_type, noted_types, signature_entry, signature_entries}
use Rattle.join_laws.proofs.Numbers.{name_of, sort_of, FoundAt, leads_to}
use Rattle.join_laws.proofs.Classes.{Stands, AllGo, Pair, IsWrittenKin, NumberGoes, below, class_goes}
use Rattle.join_laws.proofs.References.{funcref_goes}
use Rattle.join_laws.proofs.Lookups.{SignaturesStand, SignatureGoes, noted_stands}
use Rattle.join_laws.proofs.Alike.{SameNames, Alike}
use Rattle.join_laws.proofs.Graphs.{In, get_at, signature_is, id_of_signature, many_signatures}
use Rattle.join_laws.proofs.Joined.{Represents, uses_in, like_type, like_signature, graph, behind_types, types_kin, signatures_kin, written_type}

abbrev pub table : List Item → Table
table b = table_of (globals_of b) b

written_types : (b : List Item) (t : ℕ) → t < length (types_of (globals_of b) b) → t < (table b).written
written_types b t l = omega (arith, l, length-append (types_of (globals_of b) b) (signatures_of (globals_of b) b))

pub written_signatures : (b : List Item) (s : ℕ) → s < length (signatures_of (globals_of b) b) → behind_types b s < (table b).written
written_signatures b s l = omega (arith, l, length-append (types_of (globals_of b) b) (signatures_of (globals_of b) b))

-- ---- types by name

pub type_stands : (b j : List Item) → Represents b j → (name : List ℕ) (t : ℕ) → found (globals_of b).names name ≡ Some (sorts.Written t) →
    (u : ℕ) × (found (globals_of j).names name ≡ Some (sorts.Written u)) × IsWrittenKin (table b) (table j) t u
type_stands b j r name t h =
    let like = like_type b j r name t h in
    let both : IsWrittenKin (table b) (table j) t like.other.number = record { kin = types_kin b j r name t like.other.number h like.named; low = written_types b t like.one.low; there = written_types j like.other.number like.other.low } in
    (like.other.number, like.named, both)

pub signature_stands : (b j : List Item) → Represents b j → (name : List ℕ) (s : ℕ) → found (globals_of b).names name ≡ Some (sorts.Signature s) →
    (v : ℕ) × (found (globals_of j).names name ≡ Some (sorts.Signature v)) × IsWrittenKin (table b) (table j) (behind_types b s) (behind_types j v)
signature_stands b j r name s h =
    let like = like_signature b j r name s h in
    let both : IsWrittenKin (table b) (table j) (behind_types b s) (behind_types j like.other.number) = record { kin = signatures_kin b j r name s like.other.number h like.named; low = written_signatures b s like.one.low; there = written_signatures j like.other.number like.other.low } in
    (like.other.number, like.named, both)

pub name_goes : (b j : List Item) → Represents b j → (name : List ℕ) → NumberGoes (table b) (table j) (written_number (found (globals_of b).names name)) (written_number (found (globals_of j).names name))
name_goes b j r name = by (found (globals_of b).names name) refl
  where
    by : (o : Option Sort) → found (globals_of b).names name ≡ o → NumberGoes (table b) (table j) (written_number o) (written_number (found (globals_of j).names name))
    by (Some (sorts.Written t)) e = let u = type_stands b j r name t e in rw (u.1) (u.2)
    by o e = tt

-- ---- classes of named types

class_there : (t : Table) (k : ℕ) → k < t.written → is_some (class_at t k) ≡ true
class_there t k l = rw (below k t.written l) refl

pub noted_goes : (b j : List Item) → Represents b j → Pair (table b) (table j) → (x y : Name) → x.text ≡ y.text → is_type (found (globals_of b).names x.text) ≡ true →
    Stands (graph b) (graph j) (noted_type (table b) (globals_of b) x) (noted_type (table j) (globals_of j) y)
noted_goes b j r pair x y e h =
    let t = written_type (found (globals_of b).names x.text) h in
    let u = type_stands b j r x.text t.0 t.1 in
    let there : found (globals_of j).names y.text ≡ Some (sorts.Written u.0) = ap (found (globals_of j).names) (sym e) ∙ u.1 in
    rw (t.1, there) (noted_stands (table b) (table j) (class_in (table b) (Some t.0)) (class_in (table j) (Some u.0)) (class_goes (table b) (table j) pair (Some t.0) (Some u.0) u.2) (class_there (table b) t.0 u.2.low))

noted_all : (b j : List Item) → Represents b j → Pair (table b) (table j) → (xs ys : List Name) → SameNames xs ys → AllMet (type_uses (globals_of b).names xs) →
    AllGo (table b) (table j) (noted_types (table b) (globals_of b) xs) (noted_types (table j) (globals_of j) ys)
noted_all b j r pair [] [] e m = tt
noted_all b j r pair (x ∷ xs) (y ∷ ys) e m = (noted_goes b j r pair x y e.0 m.0.1, noted_all b j r pair xs ys e.1 m.1)
noted_all b j r pair [] (y ∷ ys) e m = absurd e
noted_all b j r pair (x ∷ xs) [] e m = absurd e

-- ---- entries

signatures_split : (t : Table) (g h : Globals) (is js : List Item) → signature_entries t g (is ++ js) ≡ signature_entries t g is ++ signature_entries t g js
signatures_split t g h [] js = refl
signatures_split t g h (items.Funcsig d ∷ is) js = ap (λ (xs : List Signature). signature_entry t g d ∷ xs) (signatures_split t g h is js)
signatures_split t g h (items.Typedef d ∷ is) js = signatures_split t g h is js
signatures_split t g h (items.Const d ∷ is) js = signatures_split t g h is js
signatures_split t g h (items.GlobalCell d ∷ is) js = signatures_split t g h is js
signatures_split t g h (items.Funcdecl d ∷ is) js = signatures_split t g h is js
signatures_split t g h (items.Funcdef d ∷ is) js = signatures_split t g h is js

signatures_many : (t : Table) (g h : Globals) (is : List Item) → length (signature_entries t g is) ≡ length (signatures_of h is)
signatures_many t g h [] = refl
signatures_many t g h (items.Funcsig d ∷ is) = ap (λ (n : ℕ). suc n) (signatures_many t g h is)
signatures_many t g h (items.Typedef d ∷ is) = signatures_many t g h is
signatures_many t g h (items.Const d ∷ is) = signatures_many t g h is
signatures_many t g h (items.GlobalCell d ∷ is) = signatures_many t g h is
signatures_many t g h (items.Funcdecl d ∷ is) = signatures_many t g h is
signatures_many t g h (items.Funcdef d ∷ is) = signatures_many t g h is

-- a signature of a bundle by its item: its number, and its entry
entry_at : (b before behind : List Item) (d : Funcsig) (t : Table) (g : Globals) → b ≡ before ++ items.Funcsig d ∷ behind → slice_get (signature_entries t g b) (length (signatures_of (globals_of b) before)) ≡ Some (signature_entry t g d)
entry_at b before behind d t g e =
    ap (λ (n : ℕ). slice_get (signature_entries t g b) n) (sym (signatures_many t g (globals_of b) before))
    ∙ (ap (λ (xs : List Signature). slice_get xs (length (signature_entries t g before))) (ap (signature_entries t g) e ∙ signatures_split t g g before (items.Funcsig d ∷ behind))
    ∙ get_at (signature_entries t g before) (signature_entries t g behind) (signature_entry t g d))

-- ---- signatures by name

-- the number of a name tells where its item stands
pub record Placed (b : List Item) (name : List ℕ) (s : ℕ) : Type 0 where
  pub definition : Funcsig
  pub item : In (items.Funcsig definition) b
  pub named : name ≡ definition.name.text
  pub number : s ≡ length (signatures_of (globals_of b) item.before)

signature_one : (m n : ℕ) → sorts.Signature m ≡ sorts.Signature n → m ≡ n
signature_one m n e = cc

placed_by : (b : List Item) (name : List ℕ) (s : ℕ) → FoundAt no_globals b name (sorts.Signature s) → Placed b name s
placed_by b name s at = by at.item at.before at.behind at.whole at.same at.sort
  where
    by : (i : Item) (before behind : List Item) → b ≡ before ++ i ∷ behind → name ≡ (name_of i).text → sorts.Signature s ≡ sort_of (with_items no_globals before) i → Placed b name s
    by (items.Funcsig d) before behind e n k = record { definition = d; item = record { before = before; behind = behind; whole = e }; named = n; number = signature_one s (with_items no_globals before).counts.signatures k ∙ many_signatures (globals_of b) before }
    by (items.Typedef d) before behind e n k = cc
    by (items.Const d) before behind e n k = cc
    by (items.GlobalCell d) before behind e n k = cc
    by (items.Funcdecl d) before behind e n k = cc
    by (items.Funcdef d) before behind e n k = cc

pub placed : (b : List Item) (name : List ℕ) (s : ℕ) → found (globals_of b).names name ≡ Some (sorts.Signature s) → Placed b name s
placed b name s h = elim (leads_to no_globals b name (sorts.Signature s) h) [
  | inl none ↦ cc
  | inr at ↦ placed_by b name s at
]

pub entry_of_name : (b : List Item) (name : List ℕ) (s : ℕ) (p : Placed b name s) → slice_get (signature_entries (table b) (globals_of b) b) s ≡ Some (signature_entry (table b) (globals_of b) p.definition)
entry_of_name b name s p =
    ap (λ (n : ℕ). slice_get (signature_entries (table b) (globals_of b) b) n) p.number ∙ entry_at b p.item.before p.item.behind p.definition (table b) (globals_of b) p.item.whole

pub sig_there : (b : List Item) (s : ℕ) (takes gives : List ℕ) → behind_types b s < (table b).written → slice_get (graph b) (behind_types b s) ≡ Some (Sig takes gives) → is_sig (definition_at (table b) (behind_types b s)) ≡ true
sig_there b s takes gives l e = rw (below (behind_types b s) (table b).written l, e) refl

some_funcref : (t : Table) (k : ℕ) → is_sig (definition_at t k) ≡ true → is_some (funcref_at t k) ≡ true
some_funcref t k h = rw h refl

-- two entries of alike signatures
entries_stand : (b j : List Item) → Represents b j → Pair (table b) (table j) → (d e : Funcsig) → In (items.Funcsig d) b → In (items.Funcsig e) j → Alike (items.Funcsig d) (items.Funcsig e) →
    SignaturesStand (table b) (table j) (signature_entry (table b) (globals_of b) d) (signature_entry (table j) (globals_of j) e)
entries_stand b j r pair d e at there a =
    let one = signature_is b d r.fresh at in
    let other = signature_is j e r.once there in
    let uses = uses_in b (items.Funcsig d) r.used at in
    let named : found (globals_of j).names d.name.text ≡ Some (sorts.Signature other.number) = ap (found (globals_of j).names) a.0 ∙ other.named in
    let low : behind_types b one.number < (table b).written = written_signatures b one.number one.low in
    let there : behind_types j other.number < (table j).written = written_signatures j other.number other.low in
    let both : IsWrittenKin (table b) (table j) (behind_types b one.number) (behind_types j other.number) = record { kin = signatures_kin b j r d.name.text one.number other.number one.named named; low = low; there = there } in
    let sig : is_sig (definition_at (table b) (behind_types b one.number)) ≡ true = sig_there b one.number (type_ids (globals_of b) d.takes) (type_ids (globals_of b) d.gives) low one.there in
    record {
      class = rw (id_of_signature b d.name one.number one.named, id_of_signature j e.name other.number other.named)
          (noted_stands (table b) (table j) (class_at (table b) (behind_types b one.number)) (class_at (table j) (behind_types j other.number))
          (class_goes (table b) (table j) pair (Some (behind_types b one.number)) (Some (behind_types j other.number)) both) (class_there (table b) (behind_types b one.number) low));
      funcref = rw (id_of_signature b d.name one.number one.named, id_of_signature j e.name other.number other.named)
          (noted_stands (table b) (table j) (funcref_at (table b) (behind_types b one.number)) (funcref_at (table j) (behind_types j other.number))
          (funcref_goes (table b) (table j) pair (behind_types b one.number) (behind_types j other.number) both) (some_funcref (table b) (behind_types b one.number) sig));
      takes = noted_all b j r pair d.takes e.takes a.1 uses.0;
      gives = noted_all b j r pair d.gives e.gives a.2 uses.1;
    }

-- the signature of a name
pub signature_goes : (b j : List Item) → Represents b j → Pair (table b) (table j) → (name : List ℕ) (s : ℕ) → found (globals_of b).names name ≡ Some (sorts.Signature s) →
    SignatureGoes (table b) (table j) (slice_get (signature_entries (table b) (globals_of b) b) s) (option_and_then (slice_get (signature_entries (table j) (globals_of j) j)) (signature_number (found (globals_of j).names name)))
signature_goes b j r pair name s h =
    let p = placed b name s h in
    let like = r.each (items.Funcsig p.definition) p.item in
    by p like.item like.there like.alike
  where
    by : (p : Placed b name s) (k : Item) → In k j → Alike (items.Funcsig p.definition) k →
        SignatureGoes (table b) (table j) (slice_get (signature_entries (table b) (globals_of b) b) s) (option_and_then (slice_get (signature_entries (table j) (globals_of j) j)) (signature_number (found (globals_of j).names name)))
    by p (items.Funcsig e) at a =
        let other = signature_is j e r.once at in
        let named : found (globals_of j).names name ≡ Some (sorts.Signature other.number) = ap (found (globals_of j).names) (p.named ∙ a.0) ∙ other.named in
        let q = placed j name other.number named in
        let there : slice_get (signature_entries (table j) (globals_of j) j) other.number ≡ Some (signature_entry (table j) (globals_of j) e) =
        ap (λ (n : ℕ). slice_get (signature_entries (table j) (globals_of j) j) n) other.placed ∙ entry_at j other.item.before other.item.behind e (table j) (globals_of j) other.item.whole in
        rw (entry_of_name b name s p, named, there) (entries_stand b j r pair p.definition e p.item at a)
    by p (items.Typedef e) at a = absurd a
    by p (items.Const e) at a = absurd a
    by p (items.GlobalCell e) at a = absurd a
    by p (items.Funcdecl e) at a = absurd a
    by p (items.Funcdef e) at a = absurd a
