-- The joined bundle: each of its items comes from a bundle, each item of each bundle is alike to one of it, and each name is defined once.
use Rattle.std.proofs.Common.{◌≡◌, ℕ, suc, Bool, true, false, ◌&&◌, nat_eq, nat_lt, List, [], ◌∷◌, ◌++◌, length, Option, Some, None, Result, Ok, Err, if◌then◌else◌, ◌⊎◌, inl, inr, refl, sym, ◌∙◌, ap, ap₂, subst, arith}
use Rattle.std.proofs.lemmas.Slice.Eq.{bytes_eq-Decides}
use Rattle.std.proofs.lemmas.Bool.{false≢true, and_parts, and_from}
use Rattle.ir_lex.specs.declared.name.Name.{Name}
use Rattle.ir_lex.specs.declared.token.Number.{Number}
use Rattle.ir_lex.specs.declared.name.Numeral.{Numeral}
use Rattle.ir_tree.specs.declared.definitions.TypeForm.{TypeForm}
use Rattle.ir_tree.specs.declared.definitions.TypeForm.TheVariants as forms
use Rattle.ir_tree.specs.declared.definitions.Literal.{Literal}
use Rattle.ir_tree.specs.declared.definitions.Literal.TheVariants as literals
use Rattle.ir_tree.specs.declared.items.Item.{Item}
use Rattle.ir_tree.specs.declared.items.Item.TheVariants as items
use Rattle.demands.specs.Demands.{or_else}
use Rattle.bundle_join.specs.declared.fault.JoinKind.{JoinKind}
use Rattle.bundle_join.specs.declared.fault.JoinKind.TheVariants.{Duplicate, OtherType, OtherSignature, TooMany}
use Rattle.bundle_join.specs.declared.fault.JoinFault.{JoinFault}
use Rattle.bundle_join.specs.declared.fault.JoinFault.TheVariants.{At}
use Rattle.bundle_join.specs.Alike.{same_name, same_names, same_sign, same_number, same_form, same_literal, alike_types, alike_signatures, alike_constants, alike_declarations}
use Rattle.bundle_join.specs.declared.verdict.Verdict.{Verdict}
use Rattle.bundle_join.specs.declared.verdict.Verdict.TheVariants.{Kept, LeftOut, Refused}
use Rattle.bundle_join.specs.Joined.{name_of, place_of, same_named, same_directive, against, first_where, compared, verdict_by, verdict, most_items, with_one, and_then, with_bundle, joined_from}
use Rattle.join_laws.proofs.Alike.{SameNames, SameForm, SameLiteral, Alike}
use Rattle.join_laws.proofs.Members.{Member, member_left, member_right, member_cases, ArePair, Apart, Once, once_more}

-- ---- items that pass the tests are alike

pub text_same : (n m : Name) → same_name n m ≡ true → m.text ≡ n.text
text_same n m h = sym ((bytes_eq-Decides n.text m.text).0 h)

names_same : (ns ms : List Name) → same_names ns ms ≡ true → SameNames ms ns
names_same [] [] h = tt
names_same (n ∷ ns) (m ∷ ms) h = let p = and_parts (same_name n m) (same_names ns ms) h in (text_same n m p.0, names_same ns ms p.1)
names_same [] (m ∷ ms) h = absurd (false≢true h)
names_same (n ∷ ns) [] h = absurd (false≢true h)

ways : (a b : Bool) → same_sign a b ≡ true → b ≡ a
ways true b h = h
ways false true h = absurd (false≢true h)
ways false false h = refl

nat_is : (a b : ℕ) → nat_eq a b ≡ true → b ≡ a
nat_is a b h = grind arith

pub numbers_same : (n m : Numeral) → same_number n m ≡ true → m.number ≡ n.number
numbers_same n m h =
    let p = and_parts (same_sign n.number.negative m.number.negative) (nat_eq n.number.magnitude m.number.magnitude) h in
    by n.number m.number (ways n.number.negative m.number.negative p.0) (nat_is n.number.magnitude m.number.magnitude p.1)
  where
    by : (x y : Number) → y.negative ≡ x.negative → y.magnitude ≡ x.magnitude → y ≡ x
    by x y e f = ap₂ (λ (a : Bool) (b : ℕ). record { negative = a; magnitude = b }) e f

form_same : (f e : TypeForm) → same_form f e ≡ true → SameForm e f
form_same (forms.Int w) (forms.Int v) h = numbers_same w v h
form_same (forms.Struct ts) (forms.Struct us) h = names_same ts us h
form_same (forms.Array t n) (forms.Array u m) h = let p = and_parts (same_name t u) (same_number n m) h in (text_same t u p.0, numbers_same n m p.1)
form_same (forms.Hybrid ts t) (forms.Hybrid us u) h = let p = and_parts (same_names ts us) (same_name t u) h in (names_same ts us p.0, text_same t u p.1)
form_same forms.Void forms.Void h = tt
form_same (forms.Ref t) (forms.Ref u) h = text_same t u h
form_same (forms.Iref t) (forms.Iref u) h = text_same t u h
form_same (forms.Funcref t) (forms.Funcref u) h = text_same t u h
form_same forms.Stackref forms.Stackref h = tt
form_same forms.Threadref forms.Threadref h = tt
form_same f e h = absurd (false≢true h)

literal_same : (f e : Literal) → same_literal f e ≡ true → SameLiteral e f
literal_same (literals.Number n) (literals.Number m) h = numbers_same n m h
literal_same (literals.Null i) (literals.Null j) h = tt
literal_same (literals.Members i ns) (literals.Members j ms) h = names_same ns ms h
literal_same f e h = absurd (false≢true h)

left_if : (b : Bool) (kind : JoinKind) (place : ℕ) → (if b then LeftOut else Refused kind place) ≡ LeftOut → b ≡ true
left_if true kind place h = refl
left_if false kind place h = cc

pub kept_if : (b : Bool) (kind : JoinKind) (place : ℕ) → (if b then Kept else Refused kind place) ≡ Kept → b ≡ true
kept_if true kind place h = refl
kept_if false kind place h = cc

never_left : (b : Bool) (kind : JoinKind) (place : ℕ) → (if b then Kept else Refused kind place) ≡ LeftOut → ⊥
never_left true kind place h = cc
never_left false kind place h = cc

pub never_kept : (b : Bool) (kind : JoinKind) (place : ℕ) → (if b then LeftOut else Refused kind place) ≡ Kept → ⊥
never_kept true kind place h = cc
never_kept false kind place h = cc

-- the second of two tests
pub second : (a b : Bool) → (a && b) ≡ true → b ≡ true
second a b h = (and_parts a b h).1

-- what is left out is alike
left_alike : (k i : Item) → (name_of i).text ≡ (name_of k).text → against k i ≡ LeftOut → Alike i k
left_alike (items.Typedef d) (items.Typedef e) n h = (n, form_same d.form e.form (second (same_name d.name e.name) (same_form d.form e.form) (left_if (alike_types d e) OtherType e.name.place h)))
left_alike (items.Funcsig d) (items.Funcsig e) n h =
    let p = and_parts (same_name d.name e.name && same_names d.takes e.takes) (same_names d.gives e.gives) (left_if (alike_signatures d e) OtherSignature e.name.place h) in
    (n, names_same d.takes e.takes (second (same_name d.name e.name) (same_names d.takes e.takes) p.0), names_same d.gives e.gives p.1)
left_alike (items.Const d) (items.Const e) n h =
    let p = and_parts (same_name d.name e.name && same_name d.of_type e.of_type) (same_literal d.literal e.literal) (left_if (alike_constants d e) Duplicate e.name.place h) in
    (n, text_same d.of_type e.of_type (second (same_name d.name e.name) (same_name d.of_type e.of_type) p.0), literal_same d.literal e.literal p.1)
left_alike (items.Funcdecl d) (items.Funcdecl e) n h = (n, text_same d.signature e.signature (second (same_name d.name e.name) (same_name d.signature e.signature) (left_if (alike_declarations d e) OtherSignature e.name.place h)))
left_alike (items.Funcdecl d) (items.Funcdef e) n h = absurd (never_left (same_name d.signature e.signature) OtherSignature e.signature.place h)
left_alike (items.Funcdef d) (items.Funcdecl e) n h = absurd (never_left (same_name d.signature e.signature) OtherSignature e.signature.place h)
left_alike k i n h = cc

-- what is kept beside one of its name is its declaration or definition
pub kept_pair : (k i : Item) → against k i ≡ Kept → ArePair k i
kept_pair (items.Funcdecl d) (items.Funcdef e) h = tt
kept_pair (items.Funcdef d) (items.Funcdecl e) h = tt
kept_pair (items.Typedef d) (items.Typedef e) h = absurd (never_kept (alike_types d e) OtherType e.name.place h)
kept_pair (items.Funcsig d) (items.Funcsig e) h = absurd (never_kept (alike_signatures d e) OtherSignature e.name.place h)
kept_pair (items.Const d) (items.Const e) h = absurd (never_kept (alike_constants d e) Duplicate e.name.place h)
kept_pair (items.Funcdecl d) (items.Funcdecl e) h = absurd (never_kept (alike_declarations d e) OtherSignature e.name.place h)
kept_pair k i h = cc

-- all are alike to themselves
same_self : (ns : List Name) → SameNames ns ns
same_self [] = tt
same_self (n ∷ ns) = (refl, same_self ns)

form_self : (f : TypeForm) → SameForm f f
form_self (forms.Int w) = refl
form_self (forms.Struct ts) = same_self ts
form_self (forms.Array t n) = (refl, refl)
form_self (forms.Hybrid ts t) = (same_self ts, refl)
form_self forms.Void = tt
form_self (forms.Ref t) = refl
form_self (forms.Iref t) = refl
form_self (forms.Funcref t) = refl
form_self forms.Stackref = tt
form_self forms.Threadref = tt

literal_self : (f : Literal) → SameLiteral f f
literal_self (literals.Number n) = refl
literal_self (literals.Null i) = tt
literal_self (literals.Members i ns) = same_self ns

pub alike_self : (i : Item) → Alike i i
alike_self (items.Typedef d) = (refl, form_self d.form)
alike_self (items.Funcsig d) = (refl, same_self d.takes, same_self d.gives)
alike_self (items.Const d) = (refl, refl, literal_self d.literal)
alike_self (items.GlobalCell d) = (refl, refl)
alike_self (items.Funcdecl d) = (refl, refl)
alike_self (items.Funcdef d) = refl

-- ---- what an item is compared with

pub record First (test : Item → Bool) (xs : List Item) (k : Item) : Type 0 where
  pub member : Member k xs
  pub passes : test k ≡ true

pub first_is : (test : Item → Bool) (xs : List Item) (k : Item) → first_where test xs ≡ Some k → First test xs k
first_is test [] k h = cc
first_is test (x ∷ xs) k h = by (test x) refl h (λ m. first_is test xs k m)
  where
    some_one : (a b : Item) → Some a ≡ Some b → b ≡ a
    some_one a b e = cc

    by : (b : Bool) → test x ≡ b → (if b then Some x else first_where test xs) ≡ Some k → (first_where test xs ≡ Some k → First test xs k) → First test (x ∷ xs) k
    by true e m next = record { member = inl (some_one x k m); passes = ap test (some_one x k m) ∙ e }
    by false e m next = let more = next m in record { member = inr more.member; passes = more.passes }

pub none_is : (test : Item → Bool) (xs : List Item) → first_where test xs ≡ None → (k : Item) → Member k xs → test k ≡ false
none_is test [] h k m = absurd m
none_is test (x ∷ xs) h k m = by (test x) refl h m (λ n more. none_is test xs n k more)
  where
    by : (b : Bool) → test x ≡ b → (if b then Some x else first_where test xs) ≡ None → Member k (x ∷ xs) → (first_where test xs ≡ None → Member k xs → test k ≡ false) → test k ≡ false
    by true e n m next = cc
    by false e n (inl same) next = ap test same ∙ e
    by false e n (inr more) next = next n more

record Compared (earlier : List Item) (i k : Item) : Type 0 where
  member : Member k earlier
  named : (name_of i).text ≡ (name_of k).text

compared_with : (earlier : List Item) (i k : Item) → compared earlier i ≡ Some k → Compared earlier i k
compared_with earlier i k h = by (first_where (λ x. same_named x i && same_directive x i) earlier) (first_where (λ x. same_named x i) earlier) refl refl h
  where
    by : (a b : Option Item) → first_where (λ x. same_named x i && same_directive x i) earlier ≡ a → first_where (λ x. same_named x i) earlier ≡ b → or_else a b ≡ Some k → Compared earlier i k
    by (Some x) b e f m =
        let same : x ≡ k = cc in
        let first = first_is (λ x. same_named x i && same_directive x i) earlier k (e ∙ ap (λ (y : Item). Some y) same) in
        record { member = first.member; named = text_same (name_of k) (name_of i) (and_parts (same_named k i) (same_directive k i) first.passes).0 }
    by None b e f m = let first = first_is (λ x. same_named x i) earlier k (f ∙ m) in record { member = first.member; named = text_same (name_of k) (name_of i) first.passes }

-- an item that is left out is alike to an earlier one
pub record Covered (i : Item) (xs : List Item) : Type 0 where
  pub like : Item
  pub member : Member like xs
  pub alike : Alike i like

left_covered : (earlier : List Item) (i : Item) → verdict earlier i ≡ LeftOut → Covered i earlier
left_covered earlier i h = by (compared earlier i) refl h
  where
    by : (o : Option Item) → compared earlier i ≡ o → verdict_by o i ≡ LeftOut → Covered i earlier
    by None e m = cc
    by (Some k) e m = let c = compared_with earlier i k e in record { like = k; member = c.member; alike = left_alike k i c.named m }

-- ---- one name once

-- two of a bundle that have one name are one, or a declaration and a definition
pub once_two : (xs : List Item) → Once xs → (k c : Item) → Member k xs → Member c xs → (name_of k).text ≡ (name_of c).text → (k ≡ c) ⊎ (ArePair k c ⊎ ArePair c k)
once_two [] o k c m n e = absurd m
once_two (x ∷ xs) o k c (inl a) (inl b) e = inl (a ∙ sym b)
once_two (x ∷ xs) o k c (inl a) (inr b) e = inr (inl (subst (λ (y : Item). Apart y c) (sym a) (o.0 c b) e))
once_two (x ∷ xs) o k c (inr a) (inl b) e = inr (inr (subst (λ (y : Item). Apart y k) (sym b) (o.0 k a) (sym e)))
once_two (x ∷ xs) o k c (inr a) (inr b) e = once_two xs o.1 k c a b e

-- two that pair with one item have one directive
pub pairs_directive : (k c i : Item) → ArePair k c → ArePair c i → same_directive k i ≡ true
pairs_directive (items.Funcdef d) (items.Funcdecl e) (items.Funcdef f) p q = refl
pairs_directive (items.Funcdecl d) (items.Funcdef e) (items.Funcdecl f) p q = refl
pairs_directive (items.Funcdef d) (items.Funcdecl e) i p q = absurd q
pairs_directive (items.Funcdecl d) (items.Funcdef e) i p q = absurd q
pairs_directive k c i p q = absurd p

pub pair_back : (k c : Item) → ArePair k c → ArePair c k
pair_back (items.Funcdef d) (items.Funcdecl e) p = tt
pair_back (items.Funcdecl d) (items.Funcdef e) p = tt
pair_back k c p = absurd p

pub pair_differs : (c i : Item) → ArePair c i → same_directive c i ≡ true → ⊥
pair_differs (items.Funcdef d) (items.Funcdecl e) p h = false≢true h
pair_differs (items.Funcdecl d) (items.Funcdef e) p h = false≢true h
pair_differs c i p h = absurd p

pub text_test : (n m : Name) → n.text ≡ m.text → same_name n m ≡ true
text_test n m e = (bytes_eq-Decides n.text m.text).1 e

-- a kept item is apart from the earlier ones
kept_apart : (earlier : List Item) (i : Item) → Once earlier → verdict earlier i ≡ Kept → (k : Item) → Member k earlier → Apart k i
kept_apart earlier i o h k m n = by (first_where (λ x. same_named x i && same_directive x i) earlier) (first_where (λ x. same_named x i) earlier) refl refl h
  where
    own : same_named k i ≡ true
    own = text_test (name_of k) (name_of i) n

    by : (a b : Option Item) → first_where (λ x. same_named x i && same_directive x i) earlier ≡ a → first_where (λ x. same_named x i) earlier ≡ b → verdict_by (or_else a b) i ≡ Kept → ArePair k i
    by (Some c) b e f v =
        let first = first_is (λ x. same_named x i && same_directive x i) earlier c e in
        absurd (pair_differs c i (kept_pair c i v) (and_parts (same_named c i) (same_directive c i) first.passes).1)
    by None None e f v = absurd (false≢true (sym (none_is (λ x. same_named x i) earlier f k m) ∙ own))
    by None (Some c) e f v =
        let first = first_is (λ x. same_named x i) earlier c f in
        let pair = kept_pair c i v in
        let named : (name_of k).text ≡ (name_of c).text = n ∙ text_same (name_of c) (name_of i) first.passes in
        let other : (same_named k i && same_directive k i) ≡ false = none_is (λ x. same_named x i && same_directive x i) earlier e k m in
        elim (once_two earlier o k c m first.member named) [
          | inl same ↦ subst (λ (y : Item). ArePair y i) (sym same) pair
          | inr two ↦
              let both : ArePair k c = elim two [ inl p ↦ p | inr p ↦ pair_back c k p ] in
              absurd (false≢true (sym other ∙ and_from (same_named k i) (same_directive k i) own (pairs_directive k c i both pair)))
        ]

-- ---- the items of one bundle

pub record Went (earlier kept is more : List Item) : Type 0 where
  pub keeps : (k : Item) → Member k kept → Member k more
  pub comes : (k : Item) → Member k more → Member k kept ⊎ Member k is
  pub covers : (i : Item) → Member i is → Covered i more
  pub once : Once more

covered_more : (i : Item) (xs ys : List Item) → ((k : Item) → Member k xs → Member k ys) → Covered i xs → Covered i ys
covered_more i xs ys f c = record { like = c.like; member = f c.like c.member; alike = c.alike }

step_by : (b : Bool) (xs : List Item) (f : JoinFault) (more : List Item) → if◌then◌else◌ {A = Result (List Item) JoinFault} b (Ok xs) (Err f) ≡ Ok more → more ≡ xs
step_by true xs f more h = cc
step_by false xs f more h = cc

pub step_kept : (n : ℕ) (kept : List Item) (i : Item) (more : List Item) → with_one n kept i Kept ≡ Ok more → more ≡ kept ++ i ∷ []
step_kept n kept i more h = step_by (nat_lt (length kept) most_items) (kept ++ i ∷ []) (At TooMany n (place_of i)) more h

pub went : (n : ℕ) (earlier kept is more : List Item) → with_bundle n earlier kept is ≡ Ok more → ((k : Item) → Member k earlier → Member k kept) → Once earlier → Once kept → Once is →
    ((k : Item) → Member k kept → Member k earlier ⊎ ((i : Item) → Member i is → Apart k i)) → Went earlier kept is more
went n earlier kept [] more h sub oe ok oi split =
    let same : kept ≡ more = cc in
    subst (λ (xs : List Item). Went earlier kept [] xs) same (record { keeps = λ k m. m; comes = λ k m. inl m; covers = λ i m. absurd m; once = ok })
went n earlier kept (i ∷ is) more h sub oe ok oi split =
    by (verdict earlier i) refl (with_one n kept i (verdict earlier i)) refl h (λ xs m s o p. went n earlier xs is more m s oe o oi.1 p)
  where
    by : (v : Verdict) → verdict earlier i ≡ v → (r : Result (List Item) JoinFault) → with_one n kept i v ≡ r → and_then r (λ xs. with_bundle n earlier xs is) ≡ Ok more → ((xs : List Item) → with_bundle n earlier xs is ≡ Ok more → ((k : Item) → Member k earlier → Member k xs) → Once xs → ((k : Item) → Member k xs → Member k earlier ⊎ ((x : Item) → Member x is → Apart k x)) → Went earlier xs is more) → Went earlier kept (i ∷ is) more
    by v e (Err fault) f m next = cc
    by (Refused kind place) e (Ok xs) f m next = cc
    by LeftOut e (Ok xs) f m next =
        let same : kept ≡ xs = cc in
        let rest = next kept (subst (λ (ys : List Item). with_bundle n earlier ys is ≡ Ok more) (sym same) m) sub ok
        (λ k p. elim (split k p) [ inl q ↦ inl q | inr q ↦ inr (λ x r. q x (inr r)) ]) in
        record {
          keeps = rest.keeps;
          comes = λ k p. elim (rest.comes k p) [ inl q ↦ inl q | inr q ↦ inr (inr q) ];
          covers = λ x p. elim p [
            | inl q ↦ subst (λ (y : Item). Covered y more) (sym q) (covered_more i earlier more (λ k r. rest.keeps k (sub k r)) (left_covered earlier i e))
            | inr q ↦ rest.covers x q
          ];
          once = rest.once;
        }
    by Kept e (Ok xs) f m next =
        let same : xs ≡ kept ++ i ∷ [] = step_kept n kept i xs f in
        let apart : (k : Item) → Member k kept → Apart k i = λ k p. elim (split k p) [ inl q ↦ kept_apart earlier i oe e k q | inr q ↦ q i (inl refl) ] in
        let rest = next (kept ++ i ∷ []) (subst (λ (ys : List Item). with_bundle n earlier ys is ≡ Ok more) same m) (λ k p. member_left k kept (i ∷ []) (sub k p)) (once_more kept i ok apart)
        (λ k p. elim (member_cases k kept (i ∷ []) p) [
          | inl q ↦ elim (split k q) [ inl r ↦ inl r | inr r ↦ inr (λ x s. r x (inr s)) ]
          | inr q ↦ elim q [ inl own ↦ inr (λ x s. subst (λ (y : Item). Apart y x) (sym own) (oi.0 x s)) | inr none ↦ absurd none ]
        ]) in
        record {
          keeps = λ k p. rest.keeps k (member_left k kept (i ∷ []) p);
          comes = λ k p. elim (rest.comes k p) [
            | inl q ↦ elim (member_cases k kept (i ∷ []) q) [ inl r ↦ inl r | inr r ↦ elim r [ inl own ↦ inr (inl own) | inr none ↦ absurd none ] ]
            | inr q ↦ inr (inr q)
          ];
          covers = λ x p. elim p [
            | inl q ↦ record { like = x; member = rest.keeps x (member_right x kept (i ∷ []) (inl q)); alike = alike_self x }
            | inr q ↦ rest.covers x q
          ];
          once = rest.once;
        }

-- ---- all bundles

abbrev pub Among : List Item → List (List Item) → Type 0
Among b [] = ⊥
Among b (c ∷ cs) = (b ≡ c) ⊎ Among b cs

pub record Joined (kept : List Item) (bundles : List (List Item)) (more : List Item) : Type 0 where
  pub keeps : (k : Item) → Member k kept → Member k more
  pub comes : (k : Item) → Member k more → Member k kept ⊎ ((b : List Item) × Among b bundles × Member k b)
  pub covers : (b : List Item) → Among b bundles → (i : Item) → Member i b → Covered i more
  pub once : Once more

pub joined_is : (n : ℕ) (kept : List Item) (bundles : List (List Item)) (more : List Item) → joined_from n kept bundles ≡ Ok more → Once kept → ((b : List Item) → Among b bundles → Once b) → Joined kept bundles more
joined_is n kept [] more h o f =
    let same : kept ≡ more = cc in
    subst (λ (xs : List Item). Joined kept [] xs) same (record { keeps = λ k m. m; comes = λ k m. inl m; covers = λ b a. absurd a; once = o })
joined_is n kept (b ∷ bs) more h o f = by (with_bundle n kept kept b) refl h (λ xs m q. joined_is (suc n) xs bs more m q (λ c a. f c (inr a)))
  where
    by : (r : Result (List Item) JoinFault) → with_bundle n kept kept b ≡ r → and_then r (λ xs. joined_from (suc n) xs bs) ≡ Ok more → ((xs : List Item) → joined_from (suc n) xs bs ≡ Ok more → Once xs → Joined xs bs more) → Joined kept (b ∷ bs) more
    by (Err fault) e m next = cc
    by (Ok xs) e m next =
        let one = went n kept kept b xs e (λ k p. p) o o (f b (inl refl)) (λ k p. inl p) in
        let rest = next xs m one.once in
        record {
          keeps = λ k p. rest.keeps k (one.keeps k p);
          comes = λ k p. elim (rest.comes k p) [
            | inl q ↦ elim (one.comes k q) [ inl r ↦ inl r | inr r ↦ inr (b, inl refl, r) ]
            | inr q ↦ inr (q.0, inr q.1, q.2)
          ];
          covers = λ c a i p. elim a [
            | inl own ↦ covered_more i xs more rest.keeps (one.covers i (subst (λ (ys : List Item). Member i ys) own p))
            | inr later ↦ rest.covers c later i p
          ];
          once = rest.once;
        }
