-- The text of a joined bundle reads back as the bundle save for places.
use Rattle.std.proofs.Common.{◌≡◌, ℕ, suc, ◌<◌, ◌≤◌, Bool, true, false, nat_lt, List, [], ◌∷◌, ◌++◌, length, Result, Ok, Err, if◌then◌else◌, ◌⊎◌, inl, inr, refl, sym, subst, arith}
use Rattle.std.proofs.lemmas.List.{length-append}
use Rattle.ir_tree.specs.declared.items.Item.{Item}
use Rattle.ir_print.specs.Laws.{Reads, IsRead, AllRead}
use Rattle.ir_print.specs.Lemmas.ReadBack.{items_read_back}
use Rattle.bundle_join.specs.declared.fault.JoinKind.TheVariants.{TooMany}
use Rattle.bundle_join.specs.declared.fault.JoinFault.{JoinFault}
use Rattle.bundle_join.specs.declared.fault.JoinFault.TheVariants.{At}
use Rattle.bundle_join.specs.declared.verdict.Verdict.{Verdict}
use Rattle.bundle_join.specs.declared.verdict.Verdict.TheVariants.{Kept, LeftOut, Refused}
use Rattle.bundle_join.specs.Joined.{place_of, verdict, most_items, with_one, and_then, with_bundle, joined_from}
use Rattle.join_laws.specs.Laws.{AreTexts, JoinedTextsReadBack}
use Rattle.join_laws.proofs.Members.{Member, member_cases, in_of}
use Rattle.join_laws.proofs.Joining.{Among}
use Rattle.join_laws.proofs.Accepted.{places_unseen}

-- with one item more: where the items come from, and that they are no more than a bundle may have
record Grows (kept : List Item) (i : Item) (more : List Item) : Type 0 where
  comes : (k : Item) → Member k more → Member k kept ⊎ (k ≡ i)
  few : length kept ≤ 16384 → length more ≤ 16384

one_grows : (n : ℕ) (kept : List Item) (i : Item) (v : Verdict) (more : List Item) → with_one n kept i v ≡ Ok more → Grows kept i more
one_grows n kept i LeftOut more h = let same : kept ≡ more = cc in subst (λ (xs : List Item). Grows kept i xs) same (record { comes = λ k m. inl m; few = λ l. l })
one_grows n kept i (Refused kind place) more h = cc
one_grows n kept i Kept more h = by (nat_lt (length kept) most_items) refl h
  where
    by : (b : Bool) → nat_lt (length kept) most_items ≡ b → if◌then◌else◌ {A = Result (List Item) JoinFault} b (Ok (kept ++ i ∷ [])) (Err (At TooMany n (place_of i))) ≡ Ok more → Grows kept i more
    by false e m = cc
    by true e m =
        let same : kept ++ i ∷ [] ≡ more = cc in
        let low : length kept < 16384 = grind (arith, e) in
        subst (λ (xs : List Item). Grows kept i xs) same (record {
          comes = λ k p. elim (member_cases k kept (i ∷ []) p) [ inl q ↦ inl q | inr q ↦ elim q [ inl own ↦ inr own | inr nothing ↦ absurd nothing ] ];
          few = λ l. omega (arith, low, length-append kept (i ∷ []));
        })

-- with the items of a bundle
record Gathers (kept is more : List Item) : Type 0 where
  comes : (k : Item) → Member k more → Member k kept ⊎ Member k is
  few : length kept ≤ 16384 → length more ≤ 16384

gathers : (n : ℕ) (earlier kept is more : List Item) → with_bundle n earlier kept is ≡ Ok more → Gathers kept is more
gathers n earlier kept [] more h = let same : kept ≡ more = cc in subst (λ (xs : List Item). Gathers kept [] xs) same (record { comes = λ k m. inl m; few = λ l. l })
gathers n earlier kept (i ∷ is) more h = by (with_one n kept i (verdict earlier i)) refl h (λ xs m. gathers n earlier xs is more m)
  where
    by : (r : Result (List Item) JoinFault) → with_one n kept i (verdict earlier i) ≡ r → and_then r (λ xs. with_bundle n earlier xs is) ≡ Ok more → ((xs : List Item) → with_bundle n earlier xs is ≡ Ok more → Gathers xs is more) → Gathers kept (i ∷ is) more
    by (Err fault) e m next = cc
    by (Ok xs) e m next =
        let one = one_grows n kept i (verdict earlier i) xs e in
        let rest = next xs m in
        record {
          comes = λ k p. elim (rest.comes k p) [
            | inl q ↦ elim (one.comes k q) [ inl old ↦ inl old | inr own ↦ inr (inl own) ]
            | inr q ↦ inr (inr q)
          ];
          few = λ l. rest.few (one.few l);
        }

-- with all bundles
record Collects (kept : List Item) (bundles : List (List Item)) (more : List Item) : Type 0 where
  comes : (k : Item) → Member k more → Member k kept ⊎ ((b : List Item) × Among b bundles × Member k b)
  few : length kept ≤ 16384 → length more ≤ 16384

collects : (n : ℕ) (kept : List Item) (bundles : List (List Item)) (more : List Item) → joined_from n kept bundles ≡ Ok more → Collects kept bundles more
collects n kept [] more h = let same : kept ≡ more = cc in subst (λ (xs : List Item). Collects kept [] xs) same (record { comes = λ k m. inl m; few = λ l. l })
collects n kept (b ∷ bs) more h = by (with_bundle n kept kept b) refl h (λ xs m. collects (suc n) xs bs more m)
  where
    by : (r : Result (List Item) JoinFault) → with_bundle n kept kept b ≡ r → and_then r (λ xs. joined_from (suc n) xs bs) ≡ Ok more → ((xs : List Item) → joined_from (suc n) xs bs ≡ Ok more → Collects xs bs more) → Collects kept (b ∷ bs) more
    by (Err fault) e m next = cc
    by (Ok xs) e m next =
        let one = gathers n kept kept b xs e in
        let rest = next xs m in
        record {
          comes = λ k p. elim (rest.comes k p) [
            | inl q ↦ elim (one.comes k q) [ inl old ↦ inl old | inr own ↦ inr (b, inl refl, own) ]
            | inr q ↦ inr (q.0, inr q.1, q.2)
          ];
          few = λ l. rest.few (one.few l);
        }

-- ---- texts

text_of : (bundles : List (List Item)) → AreTexts bundles → (b : List Item) → Among b bundles → (text : List ℕ) × Reads text b
text_of [] t b m = absurd m
text_of (c ∷ cs) t b (inl e) = (t.0.0, subst (λ (x : List Item). Reads t.0.0 x) (sym e) t.0.1)
text_of (c ∷ cs) t b (inr m) = text_of cs t.1 b m

item_read : (bundles : List (List Item)) → AreTexts bundles → (b : List Item) → Among b bundles → (k : Item) → Member k b → IsRead k
item_read bundles t b m k p =
    let at = in_of k b p in
    let text = text_of bundles t b m in
    (text.0, at.before, at.behind, subst (λ (x : List Item). Reads text.0 x) at.whole text.1)

all_read : (is : List Item) → ((k : Item) → Member k is → IsRead k) → AllRead is
all_read [] f = tt
all_read (i ∷ is) f = (f i (inl refl), all_read is (λ k m. f k (inr m)))

pub joined_reads_back : JoinedTextsReadBack
joined_reads_back bundles j t h =
    let all = collects 0 [] bundles j h in
    let read = all_read j (λ k m. elim (all.comes k m) [ inl nothing ↦ absurd nothing | inr from ↦ item_read bundles t from.0 from.1 k from.2 ]) in
    let back = items_read_back j read (all.few (omega arith)) in
    (back.0, back.1, back.2, places_unseen j back.0 back.2)
