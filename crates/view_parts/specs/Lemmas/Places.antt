-- Places of threads in what is kept of the accesses of a cell.
use Rattle.std.proofs.Common.{◌≡◌, ℕ, zero, suc, ◌+◌, ◌*◌, ◌<◌, ◌≤◌, Bool, true, false, cond, ◌&&◌, eqb, List, [], ◌∷◌, ◌++◌, length, length-append, slice_index, refl, sym, ap, ◌∙◌, inl, inr, ◌⊎◌, arith}
use Rattle.std.specs.Prelude.{min, sum_by, slice_index_or, slice_set, All}
use Rattle.std.proofs.lemmas.Bool.{cases_eq, cases_order, eq-eqb, ne_eqb}
use Rattle.std.proofs.lemmas.List.{get_or_past, get_or_append_left, get_or_push, get_or-set_same, get_or-set_other, length-set, get_or_default}
use Rattle.std.proofs.lemmas.List.Sums.{sum_by-set, sum_by_push, sum_by-le}
use Rattle.write_history.specs.Rooms.{Accesses}
use Rattle.write_history.specs.declared.access_index.Entry.{Entry}
use Rattle.view_parts.specs.declared.touched.ThreadAccesses.{ThreadAccesses}
use Rattle.view_parts.specs.Slots.{IsPlaced}
use Rattle.view_parts.specs.declared.touched.CellAccesses.{CellAccesses}
use Rattle.view_parts.specs.declared.families.Family.{Family}
use Rattle.view_parts.specs.declared.families.Family.TheVariants.{Any, Modifications, NotAtomic, NotAtomicModifications, SeqCst}
use Rattle.view_parts.specs.Touched.{index_in, index_of, entries_at, under, no_accesses, IsKept}

abbrev one_if_any : ℕ → ℕ
one_if_any n = min n 1

-- one more slot with no place
zero-pushed : (slots : List ℕ) (t : ℕ) → slice_index (slots ++ 0 ∷ []) t ≡ slice_index slots t
zero-pushed slots t = elim (cases_order t (length slots)) [
  | inl last ↦ get_or_push slots 0 0 t (sym last) ∙ sym (get_or_past slots t 0 (omega (arith, last)))
  | inr (inl below) ↦ get_or_append_left slots (0 ∷ []) 0 t below
  | inr (inr above) ↦ get_or_past (slots ++ 0 ∷ []) t 0 (omega (arith, length-append slots (0 ∷ []))) ∙ sym (get_or_past slots t 0 (omega (arith, above)))
]

pub slot-pushed : (slots : List ℕ) (places : ℕ) → length slots < 64 → IsPlaced slots places → IsPlaced (slots ++ 0 ∷ []) places
slot-pushed slots places l h = record {
  short = (let n = length-append slots (0 ∷ []) in omega (arith, n, l));
  few = (let s = sum_by_push one_if_any slots 0 in let f = h.few in omega (arith, s, f));
  within = λ t. rw (zero-pushed slots t) (h.within t);
  apart = λ t u some same. h.apart t u (rw (zero-pushed slots t) at some) (sym (zero-pushed slots t) ∙ (same ∙ zero-pushed slots u));
}

-- there are at most 64 places
pub places-few : (slots : List ℕ) (places : ℕ) → IsPlaced slots places → places ≤ 64
places-few slots places h = let s = sum_by-le one_if_any 1 slots (λ i d l. omega arith) in let f = h.few in let n = h.short in omega (arith, s, f, n)

module _ (slots : List ℕ) (places thread : ℕ) (there : thread < length slots) (none : slice_index slots thread ≡ 0) (h : IsPlaced slots places) where
  slot-set : (t : ℕ) → (t ≡ thread) ⊎ (t ≡ thread → ⊥) → ((t ≡ thread) × (slice_index (slice_set slots thread (places + 1)) t ≡ places + 1)) ⊎ (slice_index (slice_set slots thread (places + 1)) t ≡ slice_index slots t)
  slot-set t (inl e) = inl (e, rw e (get_or-set_same slots thread (places + 1) 0 there))
  slot-set t (inr n) = inr (get_or-set_other slots thread t (places + 1) 0 n)

  -- before there is a new place one more fits
  pub places-short : places + 1 ≤ 64
  places-short =
      let s = sum_by-set one_if_any slots thread 1 0 there in
      let m = sum_by-le one_if_any 1 (slice_set slots thread 1) (λ i d l. omega arith) in
      let n = length-set slots thread 1 in
      let f = h.few in
      let k = h.short in
      omega (arith, s, m, n, f, k, none)

  -- a thread takes the next place
  pub place-given : IsPlaced (slice_set slots thread (places + 1)) (places + 1)
  place-given = record {
    short = (let n = length-set slots thread (places + 1) in let k = h.short in omega (arith, n, k));
    few = (let s = sum_by-set one_if_any slots thread (places + 1) 0 there in let f = h.few in omega (arith, s, f, none));
    within = λ t. elim (slot-set t (cases_eq t thread)) [ inl p ↦ (let e = p.1 in omega (arith, e)) | inr e ↦ (let w = h.within t in omega (arith, e, w)) ];
    apart = λ t u some same. go t u some same (slot-set t (cases_eq t thread)) (slot-set u (cases_eq u thread));
  }
    where
      new : List ℕ
      new = slice_set slots thread (places + 1)

      go : (t u : ℕ) → 0 < slice_index new t → slice_index new t ≡ slice_index new u
          → ((t ≡ thread) × (slice_index new t ≡ places + 1)) ⊎ (slice_index new t ≡ slice_index slots t)
          → ((u ≡ thread) × (slice_index new u ≡ places + 1)) ⊎ (slice_index new u ≡ slice_index slots u) → t ≡ u
      go t u some same (inl p) (inl q) = p.0 ∙ sym q.0
      go t u some same (inl p) (inr q) = (let e = p.1 in let w = h.within u in absurd (omega (arith, e, same, q, w)))
      go t u some same (inr p) (inl q) = (let e = q.1 in let w = h.within t in absurd (omega (arith, e, same, p, w)))
      go t u some same (inr p) (inr q) = h.apart t u (rw p at some) (sym p ∙ (same ∙ q))

-- what a slot names, with one more place, and with what stands at a place replaced
pub under-pushed : (touched : List ThreadAccesses) (more : ThreadAccesses) (n : ℕ) → n ≤ length touched → under (touched ++ more ∷ []) n ≡ under touched n
under-pushed touched more zero l = refl
under-pushed touched more (suc p) l = get_or_append_left touched (more ∷ []) no_accesses p l

pub under-last : (touched : List ThreadAccesses) (more : ThreadAccesses) (n : ℕ) → n ≡ length touched + 1 → under (touched ++ more ∷ []) n ≡ more
under-last touched more zero e = absurd (omega (arith, e))
under-last touched more (suc p) e = get_or_push touched more no_accesses p (omega (arith, e))

pub under-set : (touched : List ThreadAccesses) (place : ℕ) (more : ThreadAccesses) (n : ℕ) → place < length touched → ((n ≡ suc place) × (under (slice_set touched place more) n ≡ more)) ⊎ ((n ≡ suc place → ⊥) × (under (slice_set touched place more) n ≡ under touched n))
under-set touched place more zero l = inr (λ e. omega (arith, e), refl)
under-set touched place more (suc p) l = go (cases_eq p place)
  where
    go : (p ≡ place) ⊎ (p ≡ place → ⊥) → ((suc p ≡ suc place) × (under (slice_set touched place more) (suc p) ≡ more)) ⊎ ((suc p ≡ suc place → ⊥) × (under (slice_set touched place more) (suc p) ≡ under touched (suc p)))
    go (inl e) = inl (ap suc e, rw e (get_or-set_same touched place more no_accesses l))
    go (inr n) = inr (λ e. n (omega (arith, e)), get_or-set_other touched place p more no_accesses n)

-- a thread without a place has no entries and no room
pub none-in : (family : Family) → (index_in family no_accesses).accesses ≡ []
none-in Any = refl
none-in Modifications = refl
none-in NotAtomic = refl
none-in NotAtomicModifications = refl
none-in SeqCst = refl

pub no-room-in : (family : Family) → (index_in family no_accesses).spare ≡ 0
no-room-in Any = refl
no-room-in Modifications = refl
no-room-in NotAtomic = refl
no-room-in NotAtomicModifications = refl
no-room-in SeqCst = refl

pub placed-none : IsPlaced [] 0
placed-none = record { short = omega arith; few = omega arith; within = λ t. omega arith; apart = λ t u some same. absurd (omega (arith, some)) }

-- a thread with a slot that is not 0 is on the list, and its place is there
pub slot-there : (slots : List ℕ) (t : ℕ) → 0 < slice_index slots t → t < length slots
slot-there slots t some = elim (cases_order t (length slots)) [
  | inl last ↦ absurd (let z = get_or_past slots t 0 (omega (arith, last)) in omega (arith, z, some))
  | inr (inl below) ↦ below
  | inr (inr above) ↦ absurd (let z = get_or_past slots t 0 (omega (arith, above)) in omega (arith, z, some))
]

-- what a slot names in a list, by what both are
moved-under : (from to : List ThreadAccesses) (m n : ℕ) → from ≡ to → m ≡ n → under from m ≡ under to n
moved-under from to m n p q = rw (p, q) refl

entries-as : (family : Family) {a b : ThreadAccesses} → a ≡ b → (index_in family a).accesses ≡ (index_in family b).accesses
entries-as family e = ap (λ (x : ThreadAccesses). (index_in family x).accesses) e

spare-as : (family : Family) {a b : ThreadAccesses} → a ≡ b → (index_in family a).spare ≡ (index_in family b).spare
spare-as family e = ap (λ (x : ThreadAccesses). (index_in family x).spare) e

-- more slots with no place keep all
pub slots-grown : (old new : CellAccesses) → ((t : ℕ) → slice_index new.slots.items t ≡ slice_index old.slots.items t) → new.touched.items ≡ old.touched.items → IsKept old new
slots-grown old new s t = record {
  entries = λ family u. entries-as family (same u);
  room = λ family u. (let e = spare-as family (same u) in omega (arith, e));
  there = λ u some. (let e = s u in omega (arith, e, some));
}
  where
    same : (u : ℕ) → under new.touched.items (slice_index new.slots.items u) ≡ under old.touched.items (slice_index old.slots.items u)
    same u = moved-under new.touched.items old.touched.items (slice_index new.slots.items u) (slice_index old.slots.items u) t (s u)

pub kept-trans : (a b c : CellAccesses) → IsKept a b → IsKept b c → IsKept a c
kept-trans a b c p q = record {
  entries = λ family u. q.entries family u ∙ p.entries family u;
  room = λ family u. (let x = p.room family u in let y = q.room family u in omega (arith, x, y));
  there = λ u some. q.there u (p.there u some);
}

-- so does the next place
pub place-kept : (old new : CellAccesses) (thread : ℕ) (more : ThreadAccesses) → thread < length old.slots.items → slice_index old.slots.items thread ≡ 0 → IsPlaced old.slots.items (length old.touched.items)
    → new.slots.items ≡ slice_set old.slots.items thread (length old.touched.items + 1) → new.touched.items ≡ old.touched.items ++ more ∷ [] → ((family : Family) → (index_in family more).accesses ≡ []) → IsKept old new
place-kept old new thread more l none h s t m = record {
  entries = λ family u. (go u (slot-set old.slots.items (length old.touched.items) thread l none h u (cases_eq u thread))).0 family;
  room = λ family u. (go u (slot-set old.slots.items (length old.touched.items) thread l none h u (cases_eq u thread))).1 family;
  there = λ u some. (let e = slot-in u in let n = named u some (slot-set old.slots.items (length old.touched.items) thread l none h u (cases_eq u thread)) in omega (arith, e, n));
}
  where
    slots : List ℕ
    slots = slice_set old.slots.items thread (length old.touched.items + 1)

    slot-in : (u : ℕ) → slice_index new.slots.items u ≡ slice_index slots u
    slot-in u = ap (λ (xs : List ℕ). slice_index xs u) s

    named : (u : ℕ) → 0 < slice_index old.slots.items u → ((u ≡ thread) × (slice_index slots u ≡ length old.touched.items + 1)) ⊎ (slice_index slots u ≡ slice_index old.slots.items u) → 0 < slice_index slots u
    named u some (inl p) = (let e = p.1 in omega (arith, e))
    named u some (inr e) = omega (arith, e, some)

    moved : (u : ℕ) → under new.touched.items (slice_index new.slots.items u) ≡ under (old.touched.items ++ more ∷ []) (slice_index slots u)
    moved u = moved-under new.touched.items (old.touched.items ++ more ∷ []) (slice_index new.slots.items u) (slice_index slots u) t (slot-in u)

    go : (u : ℕ) → ((u ≡ thread) × (slice_index slots u ≡ length old.touched.items + 1)) ⊎ (slice_index slots u ≡ slice_index old.slots.items u)
        → ((family : Family) → entries_at new family u ≡ entries_at old family u) × ((family : Family) → (index_of old family u).spare ≤ (index_of new family u).spare)
    go u (inl p) =
        let now : under new.touched.items (slice_index new.slots.items u) ≡ more = moved u ∙ under-last old.touched.items more (slice_index slots u) p.1 in
        let before : under old.touched.items (slice_index old.slots.items u) ≡ no_accesses = moved-under old.touched.items old.touched.items (slice_index old.slots.items u) 0 refl (ap (λ (v : ℕ). slice_index old.slots.items v) p.0 ∙ none) in
        (λ family. entries-as family now ∙ (m family ∙ (sym (none-in family) ∙ sym (entries-as family before))), λ family. (let e = spare-as family before in let z = no-room-in family in omega (arith, e, z)))
    go u (inr e) =
        let w : slice_index slots u ≤ length old.touched.items = (let q = h.within u in omega (arith, q, e)) in
        let now : under new.touched.items (slice_index new.slots.items u) ≡ under old.touched.items (slice_index old.slots.items u) = moved u ∙ (under-pushed old.touched.items more (slice_index slots u) w ∙ ap (λ (n : ℕ). under old.touched.items n) e) in
        (λ family. entries-as family now, λ family. (let q = spare-as family now in omega (arith, q)))

pub place-given-at : (slots : List ℕ) (places thread n m : ℕ) → thread < length slots → slice_index slots thread ≡ 0 → IsPlaced slots places → n ≡ places + 1 → m ≡ places + 1 → IsPlaced (slice_set slots thread n) m
place-given-at slots places thread n m there none h a b = rw (a, b) (place-given slots places thread there none h)

-- what stands at the place that a slot names
pub under-at : (touched : List ThreadAccesses) (n place : ℕ) (x : ThreadAccesses) → n ≡ suc place → place < length touched → x ≡ slice_index_or touched place x → x ≡ under touched n
under-at touched n place x e l h = rw e (h ∙ get_or_default touched place x no_accesses l)

pub index-read : (all : CellAccesses) (thread place : ℕ) (found : ThreadAccesses) → slice_index all.slots.items thread ≡ suc place → IsPlaced all.slots.items (length all.touched.items) → found ≡ slice_index_or all.touched.items place found
    → (family : Family) → index_in family found ≡ index_of all family thread
index-read all thread place found some h was family =
    let w = h.within thread in
    ap (λ (a : ThreadAccesses). index_in family a) (under-at all.touched.items (slice_index all.slots.items thread) place found some (omega (arith, w, some)) was)

picked : (b : Bool) (x y : List Entry) → cond b x y ≡ cond (b && true) x y
picked true x y = refl
picked false x y = refl

picked-at : (belongs same : Bool) (entry : Entry) (before old new : List Entry) → same ≡ true → old ≡ before → new ≡ cond belongs (entry ∷ before) before → new ≡ cond (belongs && same) (entry ∷ old) old
picked-at belongs same entry before old new p q r = rw (p, q) (r ∙ picked belongs (entry ∷ before) before)

passed : (b : Bool) (x y : List Entry) → y ≡ cond (b && false) x y
passed true x y = refl
passed false x y = refl

passed-at : (belongs same : Bool) (entry : Entry) (old new : List Entry) → same ≡ false → new ≡ old → new ≡ cond (belongs && same) (entry ∷ old) old
passed-at belongs same entry old new p q = rw p (q ∙ passed belongs (entry ∷ old) old)

-- what stands at the place of a thread is replaced
module _ (old : CellAccesses) (thread place : ℕ) (before after : ThreadAccesses) (some : slice_index old.slots.items thread ≡ suc place) (h : IsPlaced old.slots.items (length old.touched.items)) (was : before ≡ slice_index_or old.touched.items place before) where
  here : place < length old.touched.items
  here = let w = h.within thread in omega (arith, w, some)

  abbrev found_at : ℕ → ThreadAccesses
  found_at u = under (slice_set old.touched.items place after) (slice_index old.slots.items u)

  under-new : (u : ℕ) → ((u ≡ thread) × (found_at u ≡ after)) ⊎ ((u ≡ thread → ⊥) × (found_at u ≡ under old.touched.items (slice_index old.slots.items u)))
  under-new u = go (under-set old.touched.items place after (slice_index old.slots.items u) here)
    where
      go : ((slice_index old.slots.items u ≡ suc place) × (found_at u ≡ after)) ⊎ ((slice_index old.slots.items u ≡ suc place → ⊥) × (found_at u ≡ under old.touched.items (slice_index old.slots.items u)))
          → ((u ≡ thread) × (found_at u ≡ after)) ⊎ ((u ≡ thread → ⊥) × (found_at u ≡ under old.touched.items (slice_index old.slots.items u)))
      go (inl p) = inl (h.apart u thread (let e = p.0 in omega (arith, e)) (p.0 ∙ sym some), p.1)
      go (inr p) = inr (λ e. p.0 (ap (λ (v : ℕ). slice_index old.slots.items v) e ∙ some), p.1)

  pub replaced-entries : (family : Family) (belongs : Bool) (entry : Entry) → (index_in family after).accesses ≡ cond belongs (entry ∷ (index_in family before).accesses) (index_in family before).accesses
      → (u : ℕ) → (index_in family (under (slice_set old.touched.items place after) (slice_index old.slots.items u))).accesses ≡ cond (belongs && eqb u thread) (entry ∷ entries_at old family u) (entries_at old family u)
  replaced-entries family belongs entry a u = go (under-new u)
    where
      go : ((u ≡ thread) × (found_at u ≡ after)) ⊎ ((u ≡ thread → ⊥) × (found_at u ≡ under old.touched.items (slice_index old.slots.items u)))
          → (index_in family (found_at u)).accesses ≡ cond (belongs && eqb u thread) (entry ∷ entries_at old family u) (entries_at old family u)
      go (inl p) =
          picked-at belongs (eqb u thread) entry (index_in family before).accesses (entries_at old family u) (index_in family (found_at u)).accesses (eq-eqb u thread p.0)
          (ap (λ (v : ℕ). entries_at old family v) p.0 ∙ sym (ap (λ (i : Accesses). i.accesses) (index-read old thread place before some h was family))) (entries-as family p.1 ∙ a)
      go (inr p) = passed-at belongs (eqb u thread) entry (entries_at old family u) (index_in family (found_at u)).accesses (ne_eqb u thread p.0) (entries-as family p.1)

  pub replaced-room : (family : Family) (count : ℕ) → count ≤ (index_in family after).spare → count ≤ (index_in family (under (slice_set old.touched.items place after) (slice_index old.slots.items thread))).spare
  replaced-room family count r = go (under-new thread)
    where
      go : ((thread ≡ thread) × (found_at thread ≡ after)) ⊎ ((thread ≡ thread → ⊥) × (found_at thread ≡ under old.touched.items (slice_index old.slots.items thread))) → count ≤ (index_in family (found_at thread)).spare
      go (inl p) = (let e = spare-as family p.1 in omega (arith, e, r))
      go (inr p) = absurd (p.0 refl)
