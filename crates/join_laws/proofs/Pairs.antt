-- The graphs of a bundle and of a joined one: each written type has kin, and where no type of a bundle contains itself, none of the joined one does.
use Rattle.std.proofs.Common.{◌≡◌, ℕ, zero, suc, ◌+◌, ◌-◌, ◌<◌, ◌≤◌, Bool, true, false, List, [], ◌∷◌, ◌++◌, length, Option, Some, slice_get, cond, ◌⊎◌, inl, inr, refl, sym, ◌∙◌, ap, subst, append_assoc, arith}
use Rattle.std.proofs.lemmas.List.{length-append}
use Rattle.type_definitions.specs.declared.definition.TypeDef.{TypeDef}
use Rattle.type_definitions.specs.declared.definition.TypeDef.TheVariants.{Int, Void, Ref, Iref, FuncRef, StackRef, ThreadRef}
use Rattle.type_definitions.specs.Laws.{IsFinite}
use Rattle.type_definitions.specs.Same.{IsGraph}
use Rattle.type_definitions.specs.Parts.{parts_at, leads}
use Rattle.kin_laws.specs.Lemmas.Parts.{finite_kin}
use Rattle.ir_tree.specs.declared.definitions.Typedef.{Typedef}
use Rattle.ir_tree.specs.declared.definitions.Funcsig.{Funcsig}
use Rattle.ir_tree.specs.declared.items.Item.{Item}
use Rattle.ir_tree.specs.declared.items.Item.TheVariants as items
use Rattle.bundle_names.specs.declared.globals.Sort.TheVariants as sorts
use Rattle.bundle_names.specs.declared.globals.Globals.{Globals}
use Rattle.demands.specs.Demands.{AllMet}
use Rattle.mu_types.specs.Implied.{complete, references_from, is_signature}
use Rattle.bundle_names.specs.Globals.{no_globals, globals_of}
use Rattle.bundle_names.specs.Definitions.{items_demands}
use Rattle.checked_code.specs.Graph.{types_of, signatures_of, graph_of}
use Rattle.join_laws.proofs.Classes.{IsWrittenKin}
use Rattle.join_laws.proofs.Graphs.{In, get_right, type_is, signature_is}
use Rattle.join_laws.proofs.Members.{in_of, member_of}
use Rattle.join_laws.proofs.Joined.{Represents, graph, behind_types, types_kin}
use Rattle.join_laws.proofs.Joining.{Among}
use Rattle.join_laws.proofs.Sorts.{IsJoin, AllNamed, represents}
use Rattle.join_laws.proofs.Tables.{table, type_stands, signature_stands}

-- ---- the item of a number

pub record TypeAt (h : Globals) (is : List Item) (t : ℕ) : Type 0 where
  pub definition : Typedef
  pub item : In (items.Typedef definition) is
  pub number : length (types_of h item.before) ≡ t

next_type : (h : Globals) (x : Item) (is : List Item) (t u : ℕ) → ((xs : List Item) → length (types_of h (x ∷ xs)) ≡ u + length (types_of h xs)) → TypeAt h is t → TypeAt h (x ∷ is) (u + t)
next_type h x is t u f at = record {
  definition = at.definition;
  item = record { before = x ∷ at.item.before; behind = at.item.behind; whole = ap (λ (xs : List Item). x ∷ xs) at.item.whole };
  number = f at.item.before ∙ ap (λ (n : ℕ). u + n) at.number;
}

zero_more : (n : ℕ) → n ≡ 0 + n
zero_more n = omega arith

one_more : (n : ℕ) → suc n ≡ 1 + n
one_more n = omega arith

pub type_at : (h : Globals) (is : List Item) (t : ℕ) → t < length (types_of h is) → TypeAt h is t
type_at h [] t l = absurd (omega (arith, l))
type_at h (items.Typedef d ∷ is) zero l = record { definition = d; item = record { before = []; behind = is; whole = refl }; number = refl }
type_at h (items.Typedef d ∷ is) (suc t) l = subst (λ (n : ℕ). TypeAt h (items.Typedef d ∷ is) n) (sym (one_more t)) (next_type h (items.Typedef d) is t 1 (λ xs. one_more (length (types_of h xs))) (type_at h is t (omega (arith, l))))
type_at h (items.Funcsig d ∷ is) t l = subst (λ (n : ℕ). TypeAt h (items.Funcsig d ∷ is) n) (sym (zero_more t)) (next_type h (items.Funcsig d) is t 0 (λ xs. zero_more (length (types_of h xs))) (type_at h is t l))
type_at h (items.Const d ∷ is) t l = subst (λ (n : ℕ). TypeAt h (items.Const d ∷ is) n) (sym (zero_more t)) (next_type h (items.Const d) is t 0 (λ xs. zero_more (length (types_of h xs))) (type_at h is t l))
type_at h (items.GlobalCell d ∷ is) t l = subst (λ (n : ℕ). TypeAt h (items.GlobalCell d ∷ is) n) (sym (zero_more t)) (next_type h (items.GlobalCell d) is t 0 (λ xs. zero_more (length (types_of h xs))) (type_at h is t l))
type_at h (items.Funcdecl d ∷ is) t l = subst (λ (n : ℕ). TypeAt h (items.Funcdecl d ∷ is) n) (sym (zero_more t)) (next_type h (items.Funcdecl d) is t 0 (λ xs. zero_more (length (types_of h xs))) (type_at h is t l))
type_at h (items.Funcdef d ∷ is) t l = subst (λ (n : ℕ). TypeAt h (items.Funcdef d ∷ is) n) (sym (zero_more t)) (next_type h (items.Funcdef d) is t 0 (λ xs. zero_more (length (types_of h xs))) (type_at h is t l))

pub record SignatureAt (h : Globals) (is : List Item) (t : ℕ) : Type 0 where
  pub definition : Funcsig
  pub item : In (items.Funcsig definition) is
  pub number : length (signatures_of h item.before) ≡ t

next_signature : (h : Globals) (x : Item) (is : List Item) (t u : ℕ) → ((xs : List Item) → length (signatures_of h (x ∷ xs)) ≡ u + length (signatures_of h xs)) → SignatureAt h is t → SignatureAt h (x ∷ is) (u + t)
next_signature h x is t u f at = record {
  definition = at.definition;
  item = record { before = x ∷ at.item.before; behind = at.item.behind; whole = ap (λ (xs : List Item). x ∷ xs) at.item.whole };
  number = f at.item.before ∙ ap (λ (n : ℕ). u + n) at.number;
}

pub signature_at : (h : Globals) (is : List Item) (t : ℕ) → t < length (signatures_of h is) → SignatureAt h is t
signature_at h [] t l = absurd (omega (arith, l))
signature_at h (items.Funcsig d ∷ is) zero l = record { definition = d; item = record { before = []; behind = is; whole = refl }; number = refl }
signature_at h (items.Funcsig d ∷ is) (suc t) l = subst (λ (n : ℕ). SignatureAt h (items.Funcsig d ∷ is) n) (sym (one_more t)) (next_signature h (items.Funcsig d) is t 1 (λ xs. one_more (length (signatures_of h xs))) (signature_at h is t (omega (arith, l))))
signature_at h (items.Typedef d ∷ is) t l = subst (λ (n : ℕ). SignatureAt h (items.Typedef d ∷ is) n) (sym (zero_more t)) (next_signature h (items.Typedef d) is t 0 (λ xs. zero_more (length (signatures_of h xs))) (signature_at h is t l))
signature_at h (items.Const d ∷ is) t l = subst (λ (n : ℕ). SignatureAt h (items.Const d ∷ is) n) (sym (zero_more t)) (next_signature h (items.Const d) is t 0 (λ xs. zero_more (length (signatures_of h xs))) (signature_at h is t l))
signature_at h (items.GlobalCell d ∷ is) t l = subst (λ (n : ℕ). SignatureAt h (items.GlobalCell d ∷ is) n) (sym (zero_more t)) (next_signature h (items.GlobalCell d) is t 0 (λ xs. zero_more (length (signatures_of h xs))) (signature_at h is t l))
signature_at h (items.Funcdecl d ∷ is) t l = subst (λ (n : ℕ). SignatureAt h (items.Funcdecl d ∷ is) n) (sym (zero_more t)) (next_signature h (items.Funcdecl d) is t 0 (λ xs. zero_more (length (signatures_of h xs))) (signature_at h is t l))
signature_at h (items.Funcdef d ∷ is) t l = subst (λ (n : ℕ). SignatureAt h (items.Funcdef d ∷ is) n) (sym (zero_more t)) (next_signature h (items.Funcdef d) is t 0 (λ xs. zero_more (length (signatures_of h xs))) (signature_at h is t l))

pub type_number : (b : List Item) (d : Typedef) (m : AllMet (items_demands no_globals b)) (at : In (items.Typedef d) b) → (type_is b d m at).number ≡ length (types_of (globals_of b) at.before)
unfolding type_is
type_number b d m at = refl

pub signature_number : (b : List Item) (d : Funcsig) (m : AllMet (items_demands no_globals b)) (at : In (items.Funcsig d) b) → (signature_is b d m at).number ≡ length (signatures_of (globals_of b) at.before)
unfolding signature_is
signature_number b d m at = refl

-- ---- each written type has kin

pub cases_low : (t m : ℕ) → (t < m) ⊎ (m ≤ t)
cases_low zero zero = inr (omega arith)
cases_low zero (suc m) = inl (omega arith)
cases_low (suc t) zero = inr (omega arith)
cases_low (suc t) (suc m) = elim (cases_low t m) [ inl l ↦ inl (omega (arith, l)) | inr l ↦ inr (omega (arith, l)) ]

pub less_of : (t m n k : ℕ) → k ≡ m + n → t < k → m ≤ t → (s : ℕ) × (t ≡ m + s) × (s < n)
less_of t m n k e l h = (t - m, omega (arith, h), omega (arith, e, l, h))

pub each_kin : (b j : List Item) → Represents b j → (t : ℕ) → t < (table b).written → (u : ℕ) × IsWrittenKin (table b) (table j) t u
each_kin b j r t l = elim (cases_low t (length (types_of (globals_of b) b))) [
  | inl low ↦
      let at = type_at (globals_of b) b t low in
      let is = type_is b at.definition r.fresh at.item in
      let same : is.number ≡ t = type_number b at.definition r.fresh at.item ∙ at.number in
      let u = type_stands b j r at.definition.name.text t (is.named ∙ ap (λ (n : ℕ). Some (sorts.Written n)) same) in
      (u.0, u.2)
  | inr high ↦
      let s = less_of t (length (types_of (globals_of b) b)) (length (signatures_of (globals_of b) b)) (table b).written (length-append (types_of (globals_of b) b) (signatures_of (globals_of b) b)) l high in
      let at = signature_at (globals_of b) b s.0 s.2 in
      let is = signature_is b at.definition r.fresh at.item in
      let same : is.number ≡ s.0 = signature_number b at.definition r.fresh at.item ∙ at.number in
      let v = signature_stands b j r at.definition.name.text s.0 (is.named ∙ ap (λ (n : ℕ). Some (sorts.Signature n)) same) in
      (behind_types j v.0, subst (λ (n : ℕ). IsWrittenKin (table b) (table j) n (behind_types j v.0)) (sym s.1) v.2)
]

-- ---- no type of the joined bundle contains itself

pub leads_none : (g : List TypeDef) (n b a : ℕ) → parts_at (slice_get g a) ≡ [] → leads g n b a ≡ false
unfolding leads
leads_none g zero b a e = refl
leads_none g (suc n) b a e = rw e refl

reference_parts : (from : ℕ) (ds : List TypeDef) (k : ℕ) → parts_at (slice_get (references_from from ds) k) ≡ []
reference_parts from [] k = refl
reference_parts from (d ∷ ds) k = by (is_signature d) k (λ n. reference_parts (suc from) ds n)
  where
    by : (b : Bool) (k : ℕ) → ((n : ℕ) → parts_at (slice_get (references_from (suc from) ds) n) ≡ []) → parts_at (slice_get (cond b (FuncRef from ∷ []) (Ref from ∷ Iref from ∷ []) ++ references_from (suc from) ds) k) ≡ []
    by true zero f = refl
    by true (suc k) f = f k
    by false zero f = refl
    by false (suc zero) f = refl
    by false (suc (suc k)) f = f k

pub implied_parts : (w : List TypeDef) (k : ℕ) → parts_at (slice_get (complete w) (length w + k)) ≡ []
implied_parts w k =
    let four = Int 1 ∷ Int 32 ∷ StackRef ∷ ThreadRef ∷ [] in
    let refs = references_from 0 (w ++ Void ∷ []) in
    let e : complete w ≡ w ++ (Void ∷ Int 1 ∷ Int 32 ∷ StackRef ∷ ThreadRef ∷ refs) = append_assoc (w ++ Void ∷ []) four refs ∙ append_assoc w (Void ∷ []) (four ++ refs) in
    ap (λ (o : Option TypeDef). parts_at o) (ap (λ (xs : List TypeDef). slice_get xs (length w + k)) e ∙ get_right w (Void ∷ Int 1 ∷ Int 32 ∷ StackRef ∷ ThreadRef ∷ refs) k) ∙ first k
  where
    first : (k : ℕ) → parts_at (slice_get (Void ∷ Int 1 ∷ Int 32 ∷ StackRef ∷ ThreadRef ∷ references_from 0 (w ++ Void ∷ [])) k) ≡ []
    first zero = refl
    first (suc zero) = refl
    first (suc (suc zero)) = refl
    first (suc (suc (suc zero))) = refl
    first (suc (suc (suc (suc zero)))) = refl
    first (suc (suc (suc (suc (suc k))))) = reference_parts 0 (w ++ Void ∷ []) k

pub finite_join : (bundles : List (List Item)) (j : List Item) → AllNamed bundles → IsJoin bundles j → ((b : List Item) → Among b bundles → IsGraph (graph b) × IsFinite (graph b)) → IsFinite (graph j)
finite_join bundles j named join known t l = elim (cases_low t (table j).written) [
  | inr high ↦
      let k : ℕ = t - (table j).written in
      let e : t ≡ (table j).written + k = omega (arith, high) in
      leads_none (graph j) (length (graph j)) t t (ap (λ (n : ℕ). parts_at (slice_get (graph j) n)) e ∙ implied_parts (graph_of (globals_of j) j) k)
  | inl low ↦ elim (cases_low t (length (types_of (globals_of j) j))) [
    | inl type ↦
        let at = type_at (globals_of j) j t type in
        let other = type_is j at.definition join.once at.item in
        let same : other.number ≡ t = type_number j at.definition join.once at.item ∙ at.number in
        let from = join.origin (items.Typedef at.definition) (member_of (items.Typedef at.definition) j at.item) in
        let r = represents bundles j named join from.bundle from.among in
        let one = type_is from.bundle at.definition r.fresh (in_of (items.Typedef at.definition) from.bundle from.member) in
        let facts = known from.bundle from.among in
        finite_kin (graph from.bundle) (graph j) facts.0 facts.1 one.number t
        (types_kin from.bundle j r at.definition.name.text one.number t one.named (other.named ∙ ap (λ (n : ℕ). Some (sorts.Written n)) same))
    | inr high ↦
        let s = less_of t (length (types_of (globals_of j) j)) (length (signatures_of (globals_of j) j)) (table j).written (length-append (types_of (globals_of j) j) (signatures_of (globals_of j) j)) low high in
        let at = signature_at (globals_of j) j s.0 s.2 in
        let other = signature_is j at.definition join.once at.item in
        leads_none (graph j) (length (graph j)) t t
        (ap (λ (o : Option TypeDef). parts_at o) (ap (slice_get (graph j)) (s.1 ∙ ap (λ (n : ℕ). length (types_of (globals_of j) j) + n) (sym (signature_number j at.definition join.once at.item ∙ at.number))) ∙ other.there))
  ]
]
