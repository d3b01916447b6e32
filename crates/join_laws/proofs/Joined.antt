-- A bundle each of whose items is in another one, alike: its types are kin to the types of the same names there.
use Rattle.std.proofs.Common.{◌≡◌, ℕ, zero, suc, ◌+◌, Bool, true, ◌&&◌, ◌==◌, List, [], ◌∷◌, ◌++◌, length, Option, Some, slice_get, refl, sym, ◌∙◌, ap, subst}
use Rattle.std.proofs.lemmas.Bool.{false≢true, and_parts, and_from, eq-eqb}
use Rattle.type_definitions.specs.declared.definition.TypeDef.{TypeDef}
use Rattle.type_definitions.specs.declared.definition.TypeDef.TheVariants.{Sig}
use Rattle.type_definitions.specs.Definition.{constructor, number, arguments}
use Rattle.type_definitions.specs.Same.{pairs, agree, agree_at}
use Rattle.kin_laws.specs.Kin.{akin, Kin}
use Rattle.kin_laws.specs.Lemmas.Parts.{kin_is}
use Rattle.ir_lex.specs.declared.name.Name.{Name}
use Rattle.ir_tree.specs.declared.definitions.TypeForm.{TypeForm}
use Rattle.ir_tree.specs.declared.definitions.TypeForm.TheVariants as forms
use Rattle.ir_tree.specs.declared.definitions.Typedef.{Typedef}
use Rattle.ir_tree.specs.declared.definitions.Funcsig.{Funcsig}
use Rattle.ir_tree.specs.declared.items.Item.{Item}
use Rattle.ir_tree.specs.declared.items.Item.TheVariants as items
use Rattle.bundle_names.specs.declared.globals.Sort.{Sort}
use Rattle.bundle_names.specs.declared.globals.Sort.TheVariants as sorts
use Rattle.demands.specs.Demands.{AllMet}
use Rattle.name_scopes.specs.Names.{Names, found}
use Rattle.mu_types.specs.Implied.{complete}
use Rattle.bundle_names.specs.Globals.{no_globals, globals_of}
use Rattle.bundle_names.specs.Definitions.{items_demands}
use Rattle.bundle_names.specs.Uses.{is_type, is_signature, type_uses}
use Rattle.bundle_names.specs.ItemUses.{form_use, item_use, item_uses}
use Rattle.checked_code.specs.Graph.{type_id, type_ids, signature_id, type_definition, size_of, types_of, graph_of}
use Rattle.join_laws.proofs.Alike.{SameNames, SameForm, Alike}
use Rattle.join_laws.proofs.Graphs.{In, TypeOf, type_of_name, TypeIs, type_is, SignatureOf, signature_of_name, SignatureIs, signature_is, id_of_type, id_of_signature}

-- an item of the other bundle that is alike
pub record Like (i : Item) (j : List Item) : Type 0 where
  pub item : Item
  pub there : In item j
  pub alike : Alike i item

-- what is known of the two
pub record Represents (b j : List Item) : Type 0 where
  pub fresh : AllMet (items_demands no_globals b)
  pub used : AllMet (item_uses (globals_of b).names b)
  pub once : AllMet (items_demands no_globals j)
  pub each : (i : Item) → In i b → Like i j

-- ---- what an item of the one uses

pub use_of : (g : Names Sort) (before : List Item) (i : Item) (behind : List Item) → AllMet (item_uses g (before ++ i ∷ behind)) → AllMet (item_use g i)
use_of g [] i behind m = m.0
use_of g (x ∷ before) i behind m = use_of g before i behind m.1

pub uses_in : (b : List Item) (i : Item) → AllMet (item_uses (globals_of b).names b) → In i b → AllMet (item_use (globals_of b).names i)
uses_in b i m at = use_of (globals_of b).names at.before i at.behind (subst (λ (xs : List Item). AllMet (item_uses (globals_of b).names xs)) at.whole m)

-- ---- names of types and signatures lead to items that are alike

pub record LikeType (b j : List Item) (name : List ℕ) (t : ℕ) : Type 0 where
  pub one : TypeOf b name t
  pub definition : Typedef
  pub form : SameForm one.definition.form definition.form
  pub other : TypeIs j definition
  pub named : found (globals_of j).names name ≡ Some (sorts.Written other.number)

like_typedef : (b j : List Item) → Represents b j → (name : List ℕ) (t : ℕ) (one : TypeOf b name t) (k : Item) → In k j → Alike (items.Typedef one.definition) k → LikeType b j name t
like_typedef b j r name t one (items.Typedef e) at a =
    let other = type_is j e r.once at in
    record { one = one; definition = e; form = a.1; other = other; named = ap (found (globals_of j).names) (one.named ∙ a.0) ∙ other.named }
like_typedef b j r name t one (items.Funcsig e) at a = absurd a
like_typedef b j r name t one (items.Const e) at a = absurd a
like_typedef b j r name t one (items.GlobalCell e) at a = absurd a
like_typedef b j r name t one (items.Funcdecl e) at a = absurd a
like_typedef b j r name t one (items.Funcdef e) at a = absurd a

pub like_type : (b j : List Item) → Represents b j → (name : List ℕ) (t : ℕ) → found (globals_of b).names name ≡ Some (sorts.Written t) → LikeType b j name t
like_type b j r name t h =
    let one = type_of_name b name t h in
    let like = r.each (items.Typedef one.definition) one.item in
    like_typedef b j r name t one like.item like.there like.alike

pub record LikeSignature (b j : List Item) (name : List ℕ) (s : ℕ) : Type 0 where
  pub one : SignatureOf b name s
  pub definition : Funcsig
  pub takes : SameNames one.definition.takes definition.takes
  pub gives : SameNames one.definition.gives definition.gives
  pub other : SignatureIs j definition
  pub named : found (globals_of j).names name ≡ Some (sorts.Signature other.number)

like_funcsig : (b j : List Item) → Represents b j → (name : List ℕ) (s : ℕ) (one : SignatureOf b name s) (k : Item) → In k j → Alike (items.Funcsig one.definition) k → LikeSignature b j name s
like_funcsig b j r name s one (items.Funcsig e) at a =
    let other = signature_is j e r.once at in
    record { one = one; definition = e; takes = a.1; gives = a.2; other = other; named = ap (found (globals_of j).names) (one.named ∙ a.0) ∙ other.named }
like_funcsig b j r name s one (items.Typedef e) at a = absurd a
like_funcsig b j r name s one (items.Const e) at a = absurd a
like_funcsig b j r name s one (items.GlobalCell e) at a = absurd a
like_funcsig b j r name s one (items.Funcdecl e) at a = absurd a
like_funcsig b j r name s one (items.Funcdef e) at a = absurd a

pub like_signature : (b j : List Item) → Represents b j → (name : List ℕ) (s : ℕ) → found (globals_of b).names name ≡ Some (sorts.Signature s) → LikeSignature b j name s
like_signature b j r name s h =
    let one = signature_of_name b name s h in
    let like = r.each (items.Funcsig one.definition) one.item in
    like_funcsig b j r name s one like.item like.there like.alike

-- ---- and they are alike to each depth

abbrev pub graph : List Item → List TypeDef
graph b = complete (graph_of (globals_of b) b)

abbrev pub behind_types : List Item → ℕ → ℕ
behind_types b s = length (types_of (globals_of b) b) + s

pub record Known (b j : List Item) (k : ℕ) : Type 0 where
  pub types : (name : List ℕ) (t u : ℕ) → found (globals_of b).names name ≡ Some (sorts.Written t) → found (globals_of j).names name ≡ Some (sorts.Written u) → akin (graph b) (graph j) k t u ≡ true
  pub signatures : (name : List ℕ) (s v : ℕ) → found (globals_of b).names name ≡ Some (sorts.Signature s) → found (globals_of j).names name ≡ Some (sorts.Signature v) →
      akin (graph b) (graph j) k (behind_types b s) (behind_types j v) ≡ true

pub written_type : (o : Option Sort) → is_type o ≡ true → (t : ℕ) × (o ≡ Some (sorts.Written t))
written_type (Some (sorts.Written t)) h = (t, refl)
written_type o h = absurd (false≢true h)

pub written_signature : (o : Option Sort) → is_signature o ≡ true → (s : ℕ) × (o ≡ Some (sorts.Signature s))
written_signature (Some (sorts.Signature s)) h = (s, refl)
written_signature o h = absurd (false≢true h)

-- one name of a type
id_akin : (b j : List Item) → Represents b j → (k : ℕ) → Known b j k → (x y : Name) → x.text ≡ y.text → is_type (found (globals_of b).names x.text) ≡ true → akin (graph b) (graph j) k (type_id (globals_of b) x) (type_id (globals_of j) y) ≡ true
id_akin b j r k known x y e h =
    let t = written_type (found (globals_of b).names x.text) h in
    let like = like_type b j r x.text t.0 t.1 in
    let there : found (globals_of j).names y.text ≡ Some (sorts.Written like.other.number) = ap (found (globals_of j).names) (sym e) ∙ like.named in
    rw (id_of_type b x t.0 t.1, id_of_type j y like.other.number there) (known.types x.text t.0 like.other.number t.1 like.named)

ids_akin : (b j : List Item) → Represents b j → (k : ℕ) → Known b j k → (xs ys : List Name) → SameNames xs ys → AllMet (type_uses (globals_of b).names xs) → pairs (akin (graph b) (graph j) k) (type_ids (globals_of b) xs) (type_ids (globals_of j) ys) ≡ true
ids_akin b j r k known [] [] e m = refl
ids_akin b j r k known (x ∷ xs) (y ∷ ys) e m =
    and_from (akin (graph b) (graph j) k (type_id (globals_of b) x) (type_id (globals_of j) y)) (pairs (akin (graph b) (graph j) k) (type_ids (globals_of b) xs) (type_ids (globals_of j) ys))
    (id_akin b j r k known x y e.0 m.0.1) (ids_akin b j r k known xs ys e.1 m.1)
ids_akin b j r k known [] (y ∷ ys) e m = absurd e
ids_akin b j r k known (x ∷ xs) [] e m = absurd e

signature_akin : (b j : List Item) → Represents b j → (k : ℕ) → Known b j k → (x y : Name) → x.text ≡ y.text → is_signature (found (globals_of b).names x.text) ≡ true → akin (graph b) (graph j) k (signature_id (globals_of b) x) (signature_id (globals_of j) y) ≡ true
signature_akin b j r k known x y e h =
    let s = written_signature (found (globals_of b).names x.text) h in
    let like = like_signature b j r x.text s.0 s.1 in
    let there : found (globals_of j).names y.text ≡ Some (sorts.Signature like.other.number) = ap (found (globals_of j).names) (sym e) ∙ like.named in
    rw (id_of_signature b x s.0 s.1, id_of_signature j y like.other.number there) (known.signatures x.text s.0 like.other.number s.1 like.named)

pub pairs_append : (r : ℕ → ℕ → Bool) (xs ys us vs : List ℕ) → pairs r xs ys ≡ true → pairs r us vs ≡ true → pairs r (xs ++ us) (ys ++ vs) ≡ true
pairs_append r [] [] us vs h m = m
pairs_append r (x ∷ xs) (y ∷ ys) us vs h m = let p = and_parts (r x y) (pairs r xs ys) h in and_from (r x y) (pairs r (xs ++ us) (ys ++ vs)) p.0 (pairs_append r xs ys us vs p.1 m)
pairs_append r [] (y ∷ ys) us vs h m = absurd (false≢true h)
pairs_append r (x ∷ xs) [] us vs h m = absurd (false≢true h)

same_numbers : (r : ℕ → ℕ → Bool) (d e : TypeDef) → constructor d ≡ constructor e → number d ≡ number e → pairs r (arguments d) (arguments e) ≡ true → agree r d e ≡ true
same_numbers r d e k n p =
    and_from ((constructor d == constructor e) && (number d == number e)) (pairs r (arguments d) (arguments e))
    (and_from (constructor d == constructor e) (number d == number e) (eq-eqb (constructor d) (constructor e) k) (eq-eqb (number d) (number e) n)) p

form_akin : (b j : List Item) → Represents b j → (k : ℕ) → Known b j k → (f e : TypeForm) → SameForm f e → AllMet (form_use (globals_of b).names f) →
    agree (akin (graph b) (graph j) k) (type_definition (globals_of b) f) (type_definition (globals_of j) e) ≡ true
form_akin b j r k known (forms.Int w) (forms.Int v) a m = same_numbers (akin (graph b) (graph j) k) (type_definition (globals_of b) (forms.Int w)) (type_definition (globals_of j) (forms.Int v)) refl (ap size_of a) refl
form_akin b j r k known (forms.Struct xs) (forms.Struct ys) a m =
    same_numbers (akin (graph b) (graph j) k) (type_definition (globals_of b) (forms.Struct xs)) (type_definition (globals_of j) (forms.Struct ys)) refl refl (ids_akin b j r k known xs ys a m)
form_akin b j r k known (forms.Array x n) (forms.Array y l) a m =
    same_numbers (akin (graph b) (graph j) k) (type_definition (globals_of b) (forms.Array x n)) (type_definition (globals_of j) (forms.Array y l)) refl (ap size_of a.1)
    (and_from (akin (graph b) (graph j) k (type_id (globals_of b) x) (type_id (globals_of j) y)) true (id_akin b j r k known x y a.0 m.1) refl)
form_akin b j r k known (forms.Hybrid xs x) (forms.Hybrid ys y) a m =
    same_numbers (akin (graph b) (graph j) k) (type_definition (globals_of b) (forms.Hybrid xs x)) (type_definition (globals_of j) (forms.Hybrid ys y)) refl refl
    (pairs_append (akin (graph b) (graph j) k) (type_ids (globals_of b) xs) (type_ids (globals_of j) ys) (type_id (globals_of b) x ∷ []) (type_id (globals_of j) y ∷ [])
    (ids_akin b j r k known xs ys a.0 m.0) (and_from (akin (graph b) (graph j) k (type_id (globals_of b) x) (type_id (globals_of j) y)) true (id_akin b j r k known x y a.1 m.1.1) refl))
form_akin b j r k known forms.Void forms.Void a m = refl
form_akin b j r k known (forms.Ref x) (forms.Ref y) a m = and_from (akin (graph b) (graph j) k (type_id (globals_of b) x) (type_id (globals_of j) y)) true (id_akin b j r k known x y a m.1) refl
form_akin b j r k known (forms.Iref x) (forms.Iref y) a m = and_from (akin (graph b) (graph j) k (type_id (globals_of b) x) (type_id (globals_of j) y)) true (id_akin b j r k known x y a m.1) refl
form_akin b j r k known (forms.Funcref x) (forms.Funcref y) a m = and_from (akin (graph b) (graph j) k (signature_id (globals_of b) x) (signature_id (globals_of j) y)) true (signature_akin b j r k known x y a m.1) refl
form_akin b j r k known forms.Stackref forms.Stackref a m = refl
form_akin b j r k known forms.Threadref forms.Threadref a m = refl
form_akin b j r k known f e a m = absurd a

same_number : (o : Option Sort) (t u : ℕ) → o ≡ Some (sorts.Written t) → o ≡ Some (sorts.Written u) → t ≡ u
same_number o t u e f = cc

same_signature_number : (o : Option Sort) (t u : ℕ) → o ≡ Some (sorts.Signature t) → o ≡ Some (sorts.Signature u) → t ≡ u
same_signature_number o t u e f = cc

as_many_names : (b j : List Item) (xs ys : List Name) → SameNames xs ys → length (type_ids (globals_of b) xs) ≡ length (type_ids (globals_of j) ys)
as_many_names b j [] [] e = refl
as_many_names b j (x ∷ xs) (y ∷ ys) e = ap (λ (n : ℕ). suc n) (as_many_names b j xs ys e.1)
as_many_names b j [] (y ∷ ys) e = absurd e
as_many_names b j (x ∷ xs) [] e = absurd e

agree_there : (r : ℕ → ℕ → Bool) (o p : Option TypeDef) (d e : TypeDef) → o ≡ Some d → p ≡ Some e → agree r d e ≡ true → agree_at r o p ≡ true
agree_there r o p d e x y h = rw (x, y) h

pub known : (b j : List Item) → Represents b j → (k : ℕ) → Known b j k
unfolding akin
known b j r zero = record { types = λ name t u h m. refl; signatures = λ name s v h m. refl }
known b j r (suc k) =
    let before = known b j r k in
    record {
      types = λ name t u h m.
          let like = like_type b j r name t h in
          let same : u ≡ like.other.number = same_number (found (globals_of j).names name) u like.other.number m like.named in
          agree_there (akin (graph b) (graph j) k) (slice_get (graph b) t) (slice_get (graph j) u) (type_definition (globals_of b) like.one.definition.form) (type_definition (globals_of j) like.definition.form)
          like.one.there (ap (slice_get (graph j)) same ∙ like.other.there)
          (form_akin b j r k before like.one.definition.form like.definition.form like.form (uses_in b (items.Typedef like.one.definition) r.used like.one.item));
      signatures = λ name s v h m.
          let like = like_signature b j r name s h in
          let same : v ≡ like.other.number = same_signature_number (found (globals_of j).names name) v like.other.number m like.named in
          let uses = uses_in b (items.Funcsig like.one.definition) r.used like.one.item in
          agree_there (akin (graph b) (graph j) k) (slice_get (graph b) (behind_types b s)) (slice_get (graph j) (behind_types j v))
          (Sig (type_ids (globals_of b) like.one.definition.takes) (type_ids (globals_of b) like.one.definition.gives)) (Sig (type_ids (globals_of j) like.definition.takes) (type_ids (globals_of j) like.definition.gives))
          like.one.there (ap (λ (n : ℕ). slice_get (graph j) (behind_types j n)) same ∙ like.other.there)
          (same_numbers (akin (graph b) (graph j) k) (Sig (type_ids (globals_of b) like.one.definition.takes) (type_ids (globals_of b) like.one.definition.gives)) (Sig (type_ids (globals_of j) like.definition.takes) (type_ids (globals_of j) like.definition.gives))
          refl (as_many_names b j like.one.definition.takes like.definition.takes like.takes)
          (pairs_append (akin (graph b) (graph j) k) (type_ids (globals_of b) like.one.definition.takes) (type_ids (globals_of j) like.definition.takes) (type_ids (globals_of b) like.one.definition.gives) (type_ids (globals_of j) like.definition.gives)
          (ids_akin b j r k before like.one.definition.takes like.definition.takes like.takes uses.0) (ids_akin b j r k before like.one.definition.gives like.definition.gives like.gives uses.1)));
    }

-- the types of one name are kin
pub types_kin : (b j : List Item) → Represents b j → (name : List ℕ) (t u : ℕ) → found (globals_of b).names name ≡ Some (sorts.Written t) → found (globals_of j).names name ≡ Some (sorts.Written u) → Kin (graph b) (graph j) t u
types_kin b j r name t u h m = kin_is (graph b) (graph j) t u (λ k. (known b j r k).types name t u h m)

pub signatures_kin : (b j : List Item) → Represents b j → (name : List ℕ) (s v : ℕ) → found (globals_of b).names name ≡ Some (sorts.Signature s) → found (globals_of j).names name ≡ Some (sorts.Signature v) →
    Kin (graph b) (graph j) (behind_types b s) (behind_types j v)
signatures_kin b j r name s v h m = kin_is (graph b) (graph j) (behind_types b s) (behind_types j v) (λ k. (known b j r k).signatures name s v h m)
