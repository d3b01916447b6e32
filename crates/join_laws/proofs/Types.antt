-- A joined bundle meets the demands on types.
use Rattle.std.proofs.Common.{◌≡◌, ℕ, zero, suc, ◌+◌, ◌<◌, true, ◌||◌, not, nat_eq, nat_le, List, [], ◌∷◌, ◌++◌, length, Option, Some, slice_get, slice_index, inl, inr, refl, sym, ◌∙◌, ap, subst, arith}
use Rattle.std.specs.Prelude.{slice_index_or}
use Rattle.std.proofs.lemmas.List.{length-append}
use Rattle.type_definitions.specs.declared.definition.TypeDef.{TypeDef}
use Rattle.type_definitions.specs.declared.definition.TypeDef.TheVariants.{Int, Struct, Array, Hybrid, Void, Ref, Iref, FuncRef, StackRef, ThreadRef, Sig}
use Rattle.type_definitions.specs.Definition.{constructor, number, arguments}
use Rattle.type_definitions.specs.Same.{IsGraph}
use Rattle.type_definitions.specs.Laws.{IsFinite}
use Rattle.kin_laws.specs.Kin.{Kin}
use Rattle.kin_laws.specs.Lemmas.Parts.{AllKin, defined, leaves_kin}
use Rattle.ir_tree.specs.declared.items.Item.{Item}
use Rattle.ir_tree.specs.declared.items.Item.TheVariants as items
use Rattle.bundle_names.specs.declared.globals.Sort.TheVariants as sorts
use Rattle.mu_types.specs.declared.faults.TypeKind.{TypeKind}
use Rattle.mu_types.specs.declared.faults.TypeKind.TheVariants.{WrongArgument}
use Rattle.check_tables.specs.declared.fault.CheckKind.{CheckKind}
use Rattle.check_tables.specs.declared.fault.CheckKind.TheVariants.{Types}
use Rattle.demands.specs.Demands.{Demands, none, demand, ◌⨾◌, AllMet, as_kind}
use Rattle.mu_types.specs.TypeDemands.{each, place, can_be_part, judged, allows, wrong_arguments, wrong_arguments_of, endless_type, too_many_leaves, passes}
use Rattle.bundle_names.specs.Globals.{globals_of}
use Rattle.checked_code.specs.Graph.{types_of, signatures_of, places_of, type_demands}
use Rattle.join_laws.proofs.Tests.{IsKept}
use Rattle.join_laws.proofs.Tests.{by_numbers}
use Rattle.join_laws.proofs.Classes.{kin_definitions, test_goes}
use Rattle.join_laws.proofs.Graphs.{type_is, signature_is}
use Rattle.join_laws.proofs.Members.{in_of, member_of}
use Rattle.join_laws.proofs.Joining.{Among}
use Rattle.join_laws.proofs.Joined.{graph, behind_types, types_kin, signatures_kin}
use Rattle.join_laws.proofs.Sorts.{IsJoin, AllNamed, represents}
use Rattle.join_laws.proofs.Tables.{table}
use Rattle.join_laws.proofs.Pairs.{type_at, signature_at, cases_low, less_of, type_number, signature_number, finite_join}

-- ---- demands of many numbers

pub each_at : (f : ℕ → Demands TypeKind) (many first k : ℕ) → AllMet (each f many first) → k < many → AllMet (f (first + k))
each_at f zero first k m l = absurd (omega (arith, l))
each_at f (suc many) first zero m l = let e : first ≡ first + 0 = omega arith in subst (λ (n : ℕ). AllMet (f n)) e m.0
each_at f (suc many) first (suc k) m l = let e : suc first + k ≡ first + suc k = omega arith in subst (λ (n : ℕ). AllMet (f n)) e (each_at f many (suc first) k m.1 (omega (arith, l)))

each_all : (f : ℕ → Demands TypeKind) (many first : ℕ) → ((k : ℕ) → k < many → AllMet (f (first + k))) → AllMet (each f many first)
each_all f zero first g = tt
each_all f (suc many) first g =
    let e : first + 0 ≡ first = omega arith in (
      subst (λ (n : ℕ). AllMet (f n)) e (g 0 (omega arith)),
      each_all f many (suc first) (λ k l. let q : first + suc k ≡ suc first + k = omega arith in subst (λ (n : ℕ). AllMet (f n)) q (g (suc k) (omega (arith, l)))),
    )

pub from_zero : (f : ℕ → Demands TypeKind) (k : ℕ) → AllMet (f (0 + k)) → AllMet (f k)
from_zero f k m = let e : 0 + k ≡ k = omega arith in subst (λ (n : ℕ). AllMet (f n)) e m

to_zero : (f : ℕ → Demands TypeKind) (k : ℕ) → AllMet (f k) → AllMet (f (0 + k))
to_zero f k m = let e : k ≡ 0 + k = omega arith in subst (λ (n : ℕ). AllMet (f n)) e m

pub of_kind : (ds : Demands TypeKind) → AllMet (as_kind {L = CheckKind} Types ds) → AllMet ds
of_kind none m = tt
of_kind (demand place kind met) m = m
of_kind (a ⨾ b) m = (of_kind a m.0, of_kind b m.1)

to_kind : (ds : Demands TypeKind) → AllMet ds → AllMet (as_kind {L = CheckKind} Types ds)
to_kind none m = tt
to_kind (demand place kind met) m = m
to_kind (a ⨾ b) m = (to_kind a m.0, to_kind b m.1)

-- ---- arguments of kin types

part_numbers : (d : TypeDef) → can_be_part (Some d) ≡ not (nat_eq (constructor d) 3 || nat_eq (constructor d) 4)
part_numbers (Int w) = refl
part_numbers d = refl

part_kept : IsKept can_be_part
part_kept = by_numbers can_be_part (λ c n. not (nat_eq c 3 || nat_eq c 4)) refl part_numbers

kin_part : (b j : List Item) (x y : ℕ) → Kin (graph b) (graph j) x y → can_be_part (slice_get (graph b) x) ≡ true → can_be_part (slice_get (graph j) y) ≡ true
kin_part b j x y m h = test_goes (table b) (table j) can_be_part part_kept (slice_get (graph b) x) (slice_get (graph j) y) (kin_definitions (table b) (table j) x y m) h

part_at : (b j : List Item) (xs ys : List ℕ) (k x y : ℕ) → AllKin (graph b) (graph j) xs ys → Kin (graph b) (graph j) x y → Kin (graph b) (graph j) (slice_index_or xs k x) (slice_index_or ys k y)
part_at b j [] [] k x y m n = n
part_at b j (v ∷ xs) (w ∷ ys) zero x y m n = m.0
part_at b j (v ∷ xs) (w ∷ ys) (suc k) x y m n = part_at b j xs ys k x y m.1 n
part_at b j [] (w ∷ ys) k x y m n = absurd m
part_at b j (v ∷ xs) [] k x y m n = absurd m

member_at : (b j : List Item) (xs ys : List ℕ) (k : ℕ) → k < length xs → AllKin (graph b) (graph j) xs ys → Kin (graph b) (graph j) (slice_index xs k) (slice_index ys k)
member_at b j [] ys k l m = absurd (omega (arith, l))
member_at b j (v ∷ xs) (w ∷ ys) zero l m = m.0
member_at b j (v ∷ xs) (w ∷ ys) (suc k) l m = member_at b j xs ys k (omega (arith, l)) m.1
member_at b j (v ∷ xs) [] k l m = absurd m

many_kin : (b j : List Item) (xs ys : List ℕ) → AllKin (graph b) (graph j) xs ys → length xs ≡ length ys
many_kin b j [] [] m = refl
many_kin b j (v ∷ xs) (w ∷ ys) m = ap (λ (n : ℕ). suc n) (many_kin b j xs ys m.1)
many_kin b j [] (w ∷ ys) m = absurd m
many_kin b j (v ∷ xs) [] m = absurd m

split_kin : (b j : List Item) (xs ys : List ℕ) (x y : ℕ) → AllKin (graph b) (graph j) (xs ++ x ∷ []) (ys ++ y ∷ []) → AllKin (graph b) (graph j) xs ys × Kin (graph b) (graph j) x y
split_kin b j [] [] x y m = (tt, m.0)
split_kin b j [] (z ∷ []) x y m = absurd m.1
split_kin b j [] (z ∷ w ∷ ys) x y m = absurd m.1
split_kin b j (z ∷ []) [] x y m = absurd m.1
split_kin b j (z ∷ w ∷ xs) [] x y m = absurd m.1
split_kin b j (z ∷ xs) (w ∷ ys) x y m = let more = split_kin b j xs ys x y m.1 in ((m.0, more.0), more.1)

allows_goes : (b j : List Item) (c d : TypeDef) (k : ℕ) → constructor c ≡ constructor d → number c ≡ number d → AllKin (graph b) (graph j) (arguments c) (arguments d) → k < judged d → (k < judged c → allows (graph b) c k ≡ true) → allows (graph j) d k ≡ true
allows_goes b j (Int v) (Int w) k e n m l f = subst (λ (x : ℕ). allows (graph j) (Int x) k ≡ true) n (f l)
allows_goes b j (Struct xs) (Struct ys) k e n m l f =
    let low : k < length xs = omega (arith, l, many_kin b j xs ys m) in
    kin_part b j (slice_index xs k) (slice_index ys k) (member_at b j xs ys k low m) (f low)
allows_goes b j (Array x s) (Array y t) zero e n m l f = kin_part b j x y m.0 (f l)
allows_goes b j (Array x s) (Array y t) (suc k) e n m l f = subst (λ (z : ℕ). allows (graph j) (Array y z) (suc k) ≡ true) n (f l)
allows_goes b j (Hybrid xs x) (Hybrid ys y) k e n m l f =
    let parts = split_kin b j xs ys x y m in
    let low : k < length xs + 1 = omega (arith, l, many_kin b j xs ys parts.0) in
    kin_part b j (slice_index_or xs k x) (slice_index_or ys k y) (part_at b j xs ys k x y parts.0 parts.1) (f low)
allows_goes b j Void Void k e n m l f = refl
allows_goes b j (Ref x) (Ref y) k e n m l f = refl
allows_goes b j (Iref x) (Iref y) k e n m l f = refl
allows_goes b j (FuncRef x) (FuncRef y) k e n m l f = refl
allows_goes b j StackRef StackRef k e n m l f = refl
allows_goes b j ThreadRef ThreadRef k e n m l f = refl
allows_goes b j (Sig xs us) (Sig ys vs) k e n m l f = refl
allows_goes b j c d k e n m l f = absurd (omega (arith, e))

arguments_go : (b j : List Item) (places others : List (List ℕ)) (s t : ℕ) → Kin (graph b) (graph j) s t → AllMet (wrong_arguments (graph b) places s) → AllMet (wrong_arguments (graph j) others t)
arguments_go b j places others s t m h =
    let d = defined (graph b) (graph j) s t m in
    let one : AllMet (wrong_arguments_of (graph b) places s (Some d.one)) = subst (λ (o : Option TypeDef). AllMet (wrong_arguments_of (graph b) places s o)) d.at_one h in
    subst (λ (o : Option TypeDef). AllMet (wrong_arguments_of (graph j) others t o)) (sym d.at_other)
    (each_all (λ k. demand (place others t (k + 1)) WrongArgument (allows (graph j) d.other k)) (judged d.other) 0
    (λ k l. to_zero (λ k. demand (place others t (k + 1)) WrongArgument (allows (graph j) d.other k)) k
    (allows_goes b j d.one d.other k d.kind d.sized d.args l
    (λ low. from_zero (λ k. demand (place places s (k + 1)) WrongArgument (allows (graph b) d.one k)) k (each_at (λ k. demand (place places s (k + 1)) WrongArgument (allows (graph b) d.one k)) (judged d.one) 0 k one low)))))

-- ---- each written type comes from a bundle

pub record Source (bundles : List (List Item)) (j : List Item) (t : ℕ) : Type 0 where
  pub bundle : List Item
  pub among : Among bundle bundles
  pub number : ℕ
  pub low : number < (table bundle).written
  pub kin : Kin (graph bundle) (graph j) number t

pub source_of : (bundles : List (List Item)) (j : List Item) → AllNamed bundles → IsJoin bundles j → (t : ℕ) → t < (table j).written → Source bundles j t
source_of bundles j named join t low = elim (cases_low t (length (types_of (globals_of j) j))) [
  | inl type ↦
      let at = type_at (globals_of j) j t type in
      let other = type_is j at.definition join.once at.item in
      let same : other.number ≡ t = type_number j at.definition join.once at.item ∙ at.number in
      let from = join.origin (items.Typedef at.definition) (member_of (items.Typedef at.definition) j at.item) in
      let r = represents bundles j named join from.bundle from.among in
      let one = type_is from.bundle at.definition r.fresh (in_of (items.Typedef at.definition) from.bundle from.member) in
      record {
        bundle = from.bundle;
        among = from.among;
        number = one.number;
        low = omega (arith, one.low, length-append (types_of (globals_of from.bundle) from.bundle) (signatures_of (globals_of from.bundle) from.bundle));
        kin = types_kin from.bundle j r at.definition.name.text one.number t one.named (other.named ∙ ap (λ (n : ℕ). Some (sorts.Written n)) same);
      }
  | inr high ↦
      let s = less_of t (length (types_of (globals_of j) j)) (length (signatures_of (globals_of j) j)) (table j).written (length-append (types_of (globals_of j) j) (signatures_of (globals_of j) j)) low high in
      let at = signature_at (globals_of j) j s.0 s.2 in
      let other = signature_is j at.definition join.once at.item in
      let same : other.number ≡ s.0 = signature_number j at.definition join.once at.item ∙ at.number in
      let from = join.origin (items.Funcsig at.definition) (member_of (items.Funcsig at.definition) j at.item) in
      let r = represents bundles j named join from.bundle from.among in
      let one = signature_is from.bundle at.definition r.fresh (in_of (items.Funcsig at.definition) from.bundle from.member) in
      record {
        bundle = from.bundle;
        among = from.among;
        number = behind_types from.bundle one.number;
        low = omega (arith, one.low, length-append (types_of (globals_of from.bundle) from.bundle) (signatures_of (globals_of from.bundle) from.bundle));
        kin = subst (λ (n : ℕ). Kin (graph from.bundle) (graph j) (behind_types from.bundle one.number) n) (sym s.1)
            (signatures_kin from.bundle j r at.definition.name.text one.number s.0 one.named (other.named ∙ ap (λ (n : ℕ). Some (sorts.Signature n)) same));
      }
]

-- ---- all three passes

pub join_types : (bundles : List (List Item)) (j : List Item) → AllNamed bundles → IsJoin bundles j → ((b : List Item) → Among b bundles → IsGraph (graph b) × IsFinite (graph b)) → IsGraph (graph j) →
    ((b : List Item) → Among b bundles → AllMet (type_demands (globals_of b) b)) → AllMet (type_demands (globals_of j) j)
join_types bundles j named join known other met =
    let many = (table j).written in
    let finite = finite_join bundles j named join known in
    let places = places_of j in
    to_kind (passes (graph j) places many) (
      each_all (wrong_arguments (graph j) places) many 0 (λ t l. to_zero (wrong_arguments (graph j) places) t
          (let s = source_of bundles j named join t l in
          let one = of_kind (passes (graph s.bundle) (places_of s.bundle) (table s.bundle).written) (met s.bundle s.among) in
          arguments_go s.bundle j (places_of s.bundle) places s.number t s.kin
          (from_zero (wrong_arguments (graph s.bundle) (places_of s.bundle)) s.number (each_at (wrong_arguments (graph s.bundle) (places_of s.bundle)) (table s.bundle).written 0 s.number one.0 s.low)))),
      (
        each_all (endless_type (graph j) places) many 0 (λ t l. to_zero (endless_type (graph j) places) t
            (let s = source_of bundles j named join t l in ap not (finite t s.kin.there))),
        each_all (too_many_leaves (graph j) places) many 0 (λ t l. to_zero (too_many_leaves (graph j) places) t
            (let s = source_of bundles j named join t l in
            let one = of_kind (passes (graph s.bundle) (places_of s.bundle) (table s.bundle).written) (met s.bundle s.among) in
            let facts = known s.bundle s.among in
            subst (λ (n : ℕ). nat_le n 4096 ≡ true) (leaves_kin (graph s.bundle) (graph j) facts.0 facts.1 other finite s.number t s.kin)
            (from_zero (too_many_leaves (graph s.bundle) (places_of s.bundle)) s.number (each_at (too_many_leaves (graph s.bundle) (places_of s.bundle)) (table s.bundle).written 0 s.number one.1.1 s.low)))),
      ),
    )
