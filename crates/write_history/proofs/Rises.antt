-- An index in the order of its events, and newest first.
use Rattle.std.proofs.Common.{◌≡◌, ℕ, suc, zero, ◌-◌, ◌<◌, ◌≤◌, List, [], ◌∷◌, length, get_or, reverse, Option, Some, None, refl, sym, ap, ◌∙◌, arith, inl, inr}
use Rattle.std.specs.Option.{option_map}
use Rattle.std.proofs.lemmas.List.{length-reverse, get_or-reverse}
use Rattle.std.proofs.lemmas.Bool.{cases_lt, le-leb, lt-leb, lt-ltb, le-ltb}
use Rattle.write_history.specs.Indexes.{Rising, last_position, first_after, no_entry}
use Rattle.write_history.specs.declared.access_index.Entry.{Entry}

-- where a number cuts an index: in the order of events the first n are those whose number is not above upto
pub record Cut (upto n : ℕ) (entries : List Entry) : Type 0 where
  pub within : n ≤ length entries
  pub below : (i : ℕ) → i < n → (get_or entries i no_entry).event ≤ upto
  pub above : (i : ℕ) → n ≤ i → i < length entries → upto < (get_or entries i no_entry).event

-- the last of the first n entries
abbrev pub last_of : ℕ → List Entry → Option Entry
last_of zero xs = None
last_of (suc n) xs = Some (get_or xs n no_entry)

-- newest first, numbers fall
falling : (xs : List Entry) (i j : ℕ) → Rising xs → i < j → j < length xs → (get_or xs j no_entry).event < (get_or xs i no_entry).event
falling [] i j r l m = absurd (omega arith)
falling (x ∷ xs) i zero r l m = absurd (omega arith)
falling (x ∷ xs) zero (suc j) r l m = r.0 j no_entry (omega arith)
falling (x ∷ xs) (suc i) (suc j) r l m = falling xs i j r.1 (omega arith) (omega arith)

-- in the order of events, numbers rise
rising-at : (xs : List Entry) (i j : ℕ) → Rising (reverse xs) → i < j → j < length xs → (get_or xs i no_entry).event < (get_or xs j no_entry).event
rising-at xs i j r l m =
    let n = length-reverse xs in
    let a : length xs - 1 - (length xs - 1 - i) ≡ i = omega arith in
    let b : length xs - 1 - (length xs - 1 - j) ≡ j = omega arith in
    let p = get_or-reverse xs (length xs - 1 - i) no_entry (omega arith) ∙ ap (λ (k : ℕ). get_or xs k no_entry) a in
    let q = get_or-reverse xs (length xs - 1 - j) no_entry (omega arith) ∙ ap (λ (k : ℕ). get_or xs k no_entry) b in
    rw q at (rw p at (falling (reverse xs) (length xs - 1 - j) (length xs - 1 - i) r (omega arith) (omega (arith, n))))

-- what stands before an entry that is not above is not above
pub not-above : (entries : List Entry) (upto m i : ℕ) → Rising (reverse entries) → m < length entries → (get_or entries m no_entry).event ≤ upto → i ≤ m → (get_or entries i no_entry).event ≤ upto
not-above entries upto m i r l h s = elim (cases_lt i m) [ inl p ↦ (let q = rising-at entries i m r p l in omega arith) | inr p ↦ (let e : i ≡ m = omega arith in rw e h) ]

-- what stands after an entry that is above is above
pub still-above : (entries : List Entry) (upto m i : ℕ) → Rising (reverse entries) → upto < (get_or entries m no_entry).event → m ≤ i → i < length entries → upto < (get_or entries i no_entry).event
still-above entries upto m i r h s l = elim (cases_lt m i) [ inl p ↦ (let q = rising-at entries m i r p l in omega arith) | inr p ↦ (let e : i ≡ m = omega arith in rw e h) ]

-- the newest n are above, and the next is not
floor-skip : (upto n : ℕ) (xs : List Entry) → n < length xs → ((i : ℕ) → i < n → upto < (get_or xs i no_entry).event) → (get_or xs n no_entry).event ≤ upto → last_position upto xs ≡ Some (get_or xs n no_entry).position
floor-skip upto n [] l h a = absurd (omega arith)
floor-skip upto zero (x ∷ xs) l h a = rw (le-leb x.event upto a)
floor-skip upto (suc n) (x ∷ xs) l h a = rw (lt-leb x.event upto (h 0 (omega arith))) (floor-skip upto n xs (omega arith) (λ i m. h (suc i) (omega arith)) a)

-- all are above
floor-empty : (upto : ℕ) (xs : List Entry) → ((i : ℕ) → i < length xs → upto < (get_or xs i no_entry).event) → last_position upto xs ≡ None
floor-empty upto [] h = refl
floor-empty upto (x ∷ xs) h = rw (lt-leb x.event upto (h 0 (omega arith))) (floor-empty upto xs (λ i m. h (suc i) (omega arith)))

-- none is above
after-empty : (upto : ℕ) (xs : List Entry) → ((i : ℕ) → i < length xs → (get_or xs i no_entry).event ≤ upto) → first_after upto xs ≡ None
after-empty upto [] h = refl
after-empty upto (x ∷ xs) h = rw (after-empty upto xs (λ i m. h (suc i) (omega arith)), first_after) (rw (le-ltb upto x.event (h 0 (omega arith))))

-- the newest n + 1 are above, and no other
after-skip : (upto n : ℕ) (xs : List Entry) → n < length xs → upto < (get_or xs n no_entry).event → ((i : ℕ) → n < i → i < length xs → (get_or xs i no_entry).event ≤ upto) → first_after upto xs ≡ Some (get_or xs n no_entry).event
after-skip upto n [] l h a = absurd (omega arith)
after-skip upto zero (x ∷ xs) l h a = rw (after-empty upto xs (λ i m. a (suc i) (omega arith) (omega arith)), first_after) (rw (lt-ltb upto x.event h))
after-skip upto (suc n) (x ∷ xs) l h a = rw (after-skip upto n xs (omega arith) h (λ i m o. a (suc i) (omega arith) (omega arith)), first_after)

-- an entry, found from the newest
back : (xs : List Entry) (i : ℕ) → i < length xs → get_or (reverse xs) (length xs - 1 - i) no_entry ≡ get_or xs i no_entry
back xs i l = let a : length xs - 1 - (length xs - 1 - i) ≡ i = omega arith in get_or-reverse xs (length xs - 1 - i) no_entry (omega arith) ∙ ap (λ (k : ℕ). get_or xs k no_entry) a

-- no access is up to the number
floor-none : (upto : ℕ) (xs : List Entry) → Cut upto 0 xs → last_position upto (reverse xs) ≡ None
floor-none upto xs c = floor-empty upto (reverse xs) (λ i l. (let n = length-reverse xs in rw (get_or-reverse xs i no_entry (omega (arith, n))) (c.above (length xs - 1 - i) (omega arith) (omega (arith, n)))))

-- the last of the first n + 1 answers a floor
floor-some : (upto n : ℕ) (xs : List Entry) → Cut upto (suc n) xs → last_position upto (reverse xs) ≡ Some (get_or xs n no_entry).position
floor-some upto n xs c =
    let w = c.within in
    let m = length-reverse xs in
    let b = back xs n (omega arith) in
    floor-skip upto (length xs - 1 - n) (reverse xs) (omega (arith, m)) (λ i l. rw (get_or-reverse xs i no_entry (omega (arith, m))) (c.above (length xs - 1 - i) (omega arith) (omega arith))) (rw b (c.below n (omega arith)))
    ∙ ap (λ (a : Entry). Some a.position) b

-- the last entry before a cut answers a floor
pub floor-at : (upto n : ℕ) (xs : List Entry) → Cut upto n xs → option_map (λ (a : Entry). a.position) (last_of n xs) ≡ last_position upto (reverse xs)
floor-at upto zero xs c = sym (floor-none upto xs c)
floor-at upto (suc n) xs c = sym (floor-some upto n xs c)

-- no access is above the number
pub after-none : (upto : ℕ) (xs : List Entry) → Cut upto (length xs) xs → first_after upto (reverse xs) ≡ None
after-none upto xs c = after-empty upto (reverse xs) (λ i l. (let m = length-reverse xs in rw (get_or-reverse xs i no_entry (omega (arith, m))) (c.below (length xs - 1 - i) (omega (arith, m)))))

-- the entry at a cut answers what comes after
pub after-some : (upto n : ℕ) (xs : List Entry) → Cut upto n xs → n < length xs → first_after upto (reverse xs) ≡ Some (get_or xs n no_entry).event
after-some upto n xs c p =
    let m = length-reverse xs in
    let b = back xs n p in
    after-skip upto (length xs - 1 - n) (reverse xs) (omega (arith, m)) (rw b (c.above n (omega arith) p)) (λ i l k. rw (get_or-reverse xs i no_entry (omega (arith, m))) (c.below (length xs - 1 - i) (omega (arith, m))))
    ∙ ap (λ (a : Entry). Some a.event) b

-- a number that the newest entry is not above has all entries before its cut
pub cut-at-end : (upto : ℕ) (xs : List Entry) → Rising (reverse xs) → (get_or xs (length xs - 1) no_entry).event ≤ upto → Cut upto (length xs) xs
cut-at-end upto xs r h = record {
  within = omega arith;
  below = λ i m. not-above xs upto (length xs - 1) i r (omega arith) h (omega arith);
  above = λ i m n. absurd (omega arith);
}
