-- In a joined bundle a declaration and a definition of one function name one signature, or both come from one bundle.
use Rattle.std.proofs.Common.{◌≡◌, ℕ, suc, true, false, ◌&&◌, List, [], ◌∷◌, ◌++◌, Option, Some, None, Result, Ok, Err, ◌⊎◌, inl, inr, refl, sym, ◌∙◌, ap, subst}
use Rattle.std.proofs.lemmas.Bool.{false≢true, and_parts, and_from}
use Rattle.ir_tree.specs.declared.items.Item.{Item}
use Rattle.ir_tree.specs.declared.items.Item.TheVariants as items
use Rattle.demands.specs.Demands.{or_else}
use Rattle.bundle_join.specs.declared.fault.JoinKind.TheVariants.{Duplicate, OtherType, OtherSignature}
use Rattle.bundle_join.specs.declared.fault.JoinFault.{JoinFault}
use Rattle.bundle_join.specs.Alike.{same_name, alike_types, alike_signatures, alike_constants, alike_declarations}
use Rattle.bundle_join.specs.declared.verdict.Verdict.{Verdict}
use Rattle.bundle_join.specs.declared.verdict.Verdict.TheVariants.{Kept, LeftOut, Refused}
use Rattle.bundle_join.specs.Joined.{name_of, same_named, same_directive, against, first_where, verdict_by, verdict, with_one, and_then, with_bundle, joined_from, joined}
use Rattle.join_laws.proofs.Members.{Member, member_cases, ArePair, Once}
use Rattle.join_laws.proofs.Joining.{Among, went, first_is, none_is, once_two, pairs_directive, pair_back, pair_differs, text_test, text_same, kept_pair, kept_if, never_kept, step_kept}

-- a declaration and a definition that name one signature
abbrev pub Agree : Item → Item → Type 0
Agree (items.Funcdecl d) (items.Funcdef e) = d.signature.text ≡ e.signature.text
Agree (items.Funcdef d) (items.Funcdecl e) = d.signature.text ≡ e.signature.text
Agree _ _ = ⊥

agree_back : (k i : Item) → Agree k i → Agree i k
agree_back (items.Funcdecl d) (items.Funcdef e) a = sym a
agree_back (items.Funcdef d) (items.Funcdecl e) a = sym a
agree_back k i a = absurd a

kept_agree : (k i : Item) → against k i ≡ Kept → Agree k i
kept_agree (items.Funcdecl d) (items.Funcdef e) h = sym (text_same d.signature e.signature (kept_if (same_name d.signature e.signature) OtherSignature e.signature.place h))
kept_agree (items.Funcdef d) (items.Funcdecl e) h = sym (text_same d.signature e.signature (kept_if (same_name d.signature e.signature) OtherSignature e.signature.place h))
kept_agree (items.Typedef d) (items.Typedef e) h = absurd (never_kept (alike_types d e) OtherType e.name.place h)
kept_agree (items.Funcsig d) (items.Funcsig e) h = absurd (never_kept (alike_signatures d e) OtherSignature e.name.place h)
kept_agree (items.Const d) (items.Const e) h = absurd (never_kept (alike_constants d e) Duplicate e.name.place h)
kept_agree (items.Funcdecl d) (items.Funcdecl e) h = absurd (never_kept (alike_declarations d e) OtherSignature e.name.place h)
kept_agree k i h = cc

-- a kept item agrees with the earlier one of its name
earlier_agree : (earlier : List Item) (i : Item) → Once earlier → verdict earlier i ≡ Kept → (k : Item) → Member k earlier → (name_of k).text ≡ (name_of i).text → Agree k i
earlier_agree earlier i o h k m n = by (first_where (λ x. same_named x i && same_directive x i) earlier) (first_where (λ x. same_named x i) earlier) refl refl h
  where
    own : same_named k i ≡ true
    own = text_test (name_of k) (name_of i) n

    by : (a b : Option Item) → first_where (λ x. same_named x i && same_directive x i) earlier ≡ a → first_where (λ x. same_named x i) earlier ≡ b → verdict_by (or_else a b) i ≡ Kept → Agree k i
    by (Some c) b e f v =
        let first = first_is (λ x. same_named x i && same_directive x i) earlier c e in
        absurd (pair_differs c i (kept_pair c i v) (and_parts (same_named c i) (same_directive c i) first.passes).1)
    by None None e f v = absurd (false≢true (sym (none_is (λ x. same_named x i) earlier f k m) ∙ own))
    by None (Some c) e f v =
        let first = first_is (λ x. same_named x i) earlier c f in
        let named : (name_of k).text ≡ (name_of c).text = n ∙ text_same (name_of c) (name_of i) first.passes in
        let other : (same_named k i && same_directive k i) ≡ false = none_is (λ x. same_named x i && same_directive x i) earlier e k m in
        elim (once_two earlier o k c m first.member named) [
          | inl same ↦ subst (λ (y : Item). Agree y i) (sym same) (kept_agree c i v)
          | inr two ↦
              let both : ArePair k c = elim two [ inl p ↦ p | inr p ↦ pair_back c k p ] in
              absurd (false≢true (sym other ∙ and_from (same_named k i) (same_directive k i) own (pairs_directive k c i both (kept_pair c i v))))
        ]

-- both of one bundle
pub record Together (bundles : List (List Item)) (k i : Item) : Type 0 where
  pub bundle : List Item
  pub among : Among bundle bundles
  pub one : Member k bundle
  pub other : Member i bundle

abbrev pub Linked : List (List Item) → List Item → Type 0
Linked bundles xs = (k i : Item) → Member k xs → Member i xs → ArePair k i → (name_of k).text ≡ (name_of i).text → Agree k i ⊎ Together bundles k i

never_self : (i : Item) → ArePair i i → ⊥
never_self (items.Funcdecl d) p = p
never_self (items.Funcdef d) p = p
never_self (items.Typedef d) p = p
never_self (items.Funcsig d) p = p
never_self (items.Const d) p = p
never_self (items.GlobalCell d) p = p

linked_more : (bundles : List (List Item)) (xs : List Item) (i : Item) → Linked bundles xs → ((k : Item) → Member k xs → (name_of k).text ≡ (name_of i).text → Agree k i ⊎ Together bundles k i) → Linked bundles (xs ++ i ∷ [])
linked_more bundles xs i l f a b m n p e = elim (member_cases a xs (i ∷ []) m) [
  | inl x ↦ elim (member_cases b xs (i ∷ []) n) [
    | inl y ↦ l a b x y p e
    | inr y ↦ elim y [
      | inl same ↦ subst (λ (z : Item). Agree a z ⊎ Together bundles a z) (sym same) (f a x (e ∙ ap (λ (z : Item). (name_of z).text) same))
      | inr nothing ↦ absurd nothing
    ]
  ]
  | inr x ↦ elim x [
    | inl same ↦ elim (member_cases b xs (i ∷ []) n) [
      | inl y ↦ elim (f b y (sym e ∙ ap (λ (z : Item). (name_of z).text) same)) [
        | inl agree ↦ inl (subst (λ (z : Item). Agree z b) (sym same) (agree_back b i agree))
        | inr both ↦ inr (subst (λ (z : Item). Together bundles z b) (sym same) (record { bundle = both.bundle; among = both.among; one = both.other; other = both.one }))
      ]
      | inr y ↦ elim y [
        | inl own ↦ absurd (never_self i (subst (λ (z : Item). ArePair z i) same (subst (λ (z : Item). ArePair a z) own p)))
        | inr nothing ↦ absurd nothing
      ]
    ]
    | inr nothing ↦ absurd nothing
  ]
]

linked_went : (bundles : List (List Item)) (b : List Item) → Among b bundles → (n : ℕ) (earlier kept is more : List Item) → with_bundle n earlier kept is ≡ Ok more → Once earlier → Linked bundles kept →
    ((k : Item) → Member k kept → Member k earlier ⊎ Member k b) → ((i : Item) → Member i is → Member i b) → Linked bundles more
linked_went bundles b among n earlier kept [] more h oe l split sub =
    let same : kept ≡ more = cc in subst (λ (xs : List Item). Linked bundles xs) same l
linked_went bundles b among n earlier kept (i ∷ is) more h oe l split sub =
    by (verdict earlier i) refl (with_one n kept i (verdict earlier i)) refl h (λ xs m q s. linked_went bundles b among n earlier xs is more m oe q s (λ x p. sub x (inr p)))
  where
    by : (v : Verdict) → verdict earlier i ≡ v → (r : Result (List Item) JoinFault) → with_one n kept i v ≡ r → and_then r (λ xs. with_bundle n earlier xs is) ≡ Ok more →
        ((xs : List Item) → with_bundle n earlier xs is ≡ Ok more → Linked bundles xs → ((k : Item) → Member k xs → Member k earlier ⊎ Member k b) → Linked bundles more) → Linked bundles more
    by v e (Err fault) f m next = cc
    by (Refused kind place) e (Ok xs) f m next = cc
    by LeftOut e (Ok xs) f m next =
        let same : kept ≡ xs = cc in next kept (subst (λ (ys : List Item). with_bundle n earlier ys is ≡ Ok more) (sym same) m) l split
    by Kept e (Ok xs) f m next =
        let same : xs ≡ kept ++ i ∷ [] = step_kept n kept i xs f in
        next (kept ++ i ∷ []) (subst (λ (ys : List Item). with_bundle n earlier ys is ≡ Ok more) same m)
        (linked_more bundles kept i l (λ k p q. elim (split k p) [
          | inl old ↦ inl (earlier_agree earlier i oe e k old q)
          | inr own ↦ inr (record { bundle = b; among = among; one = own; other = sub i (inl refl) })
        ]))
        (λ k p. elim (member_cases k kept (i ∷ []) p) [
          | inl q ↦ split k q
          | inr q ↦ elim q [ inl own ↦ inr (subst (λ (z : Item). Member z b) (sym own) (sub i (inl refl))) | inr nothing ↦ absurd nothing ]
        ])

linked_from : (all : List (List Item)) (n : ℕ) (kept : List Item) (bundles : List (List Item)) (more : List Item) → joined_from n kept bundles ≡ Ok more → Once kept → ((b : List Item) → Among b bundles → Once b) → ((b : List Item) → Among b bundles → Among b all) →
    Linked all kept → Linked all more
linked_from all n kept [] more h o f sub l = let same : kept ≡ more = cc in subst (λ (xs : List Item). Linked all xs) same l
linked_from all n kept (b ∷ bs) more h o f sub l =
    by (with_bundle n kept kept b) refl h (λ xs m q r. linked_from all (suc n) xs bs more m q (λ c a. f c (inr a)) (λ c a. sub c (inr a)) r)
  where
    by : (r : Result (List Item) JoinFault) → with_bundle n kept kept b ≡ r → and_then r (λ xs. joined_from (suc n) xs bs) ≡ Ok more → ((xs : List Item) → joined_from (suc n) xs bs ≡ Ok more → Once xs → Linked all xs → Linked all more) → Linked all more
    by (Err fault) e m next = cc
    by (Ok xs) e m next =
        let one = went n kept kept b xs e (λ k p. p) o o (f b (inl refl)) (λ k p. inl p) in
        next xs m one.once (linked_went all b (sub b (inl refl)) n kept kept b xs e o l (λ k p. inl p) (λ i p. p))

pub join_linked : (bundles : List (List Item)) (j : List Item) → joined bundles ≡ Ok j → ((b : List Item) → Among b bundles → Once b) → Linked bundles j
join_linked bundles j h f = linked_from bundles 0 [] bundles j h tt f (λ b a. a) (λ k i m n p e. absurd m)
