-- A search by halves below the newest entry takes as many looks as the number of the others has binary digits.
use Rattle.std.proofs.Common.{◌≡◌, ℕ, suc, zero, ◌+◌, ◌-◌, ◌^◌, ◌/◌, ◌<◌, ◌≤◌, List, length, get_or, reverse, Option, Some, None, refl, ◌∙◌, sym, ap, add-one, arith}
use Rattle.std.specs.Option.{option_map}
use Rattle.write_history.specs.Indexes.{Rising, last_position, first_after, no_entry}
use Rattle.write_history.proofs.Rises.{Cut, last_of, not-above, still-above, floor-at, after-some}
use Rattle.write_history.specs.declared.access_index.Entry.{Entry}

-- what is left of all entries but the newest can be halved as often as `length` has binary digits, less the looks so far
abbrev pub Halves : ℕ → ℕ → ℕ → ℕ → Type 0
Halves length width begun now = (d : ℕ) → length ≤ 2 ^ d → (k : ℕ) × (width < 2 ^ k) × (now + k ≡ begun + d)

-- each look halves what is left
pub halves-more : (length width width' begun now now' : ℕ) → Halves length width begun now → 0 < width → width' + width' ≤ width → now' ≡ now + 1 → Halves length width' begun now'
halves-more length width width' begun now now' h w l e d s = go (h d s).0 (h d s).1 (h d s).2
  where
    go : (k : ℕ) → width < 2 ^ k → now + k ≡ begun + d → (k : ℕ) × (width' < 2 ^ k) × (now' + k ≡ begun + d)
    go zero a b = absurd (omega arith)
    go (suc k) a b = (k, omega arith, omega arith)

-- where the search stands: what is below low is not above upto, what is from high on is, and the entries next to both are kept
pub record Halving (entries : List Entry) (upto low high : ℕ) (before : Option Entry) (after : Entry) (begun now : ℕ) : Type 0 where
  pub order : low ≤ high
  pub within : high < length entries
  pub below : (i : ℕ) → i < low → (get_or entries i no_entry).event ≤ upto
  pub above : (i : ℕ) → high ≤ i → i < length entries → upto < (get_or entries i no_entry).event
  pub before_is : before ≡ last_of low entries
  pub after_is : after ≡ get_or entries high no_entry
  pub forward : begun ≤ now
  pub halves : Halves (length entries) (high - low) begun now

-- the search begins below the newest entry
pub halving-begun : (entries : List Entry) (upto : ℕ) (newest : Entry) (now : ℕ) → Rising (reverse entries) → 0 < length entries → newest ≡ get_or entries (length entries - 1) no_entry → upto < newest.event
    → Halving entries upto 0 (length entries - 1) None newest now now
halving-begun entries upto newest now r p e t = record {
  order = omega arith;
  within = omega arith;
  below = λ i m. absurd (omega arith);
  above = λ i m n. still-above entries upto (length entries - 1) i r (rw e at t) m n;
  before_is = refl;
  after_is = e;
  forward = omega arith;
  halves = λ d s. (d, omega arith, refl);
}

-- a look at an entry that is not above the number raises low
pub halving-up : (entries : List Entry) (upto low high : ℕ) (before : Option Entry) (after entry : Entry) (begun now now' : ℕ) → Rising (reverse entries) → Halving entries upto low high before after begun now
    → low < high → now' ≡ now + 1 → entry ≡ get_or entries (low + (high - low) / 2) no_entry → entry.event ≤ upto → Halving entries upto (low + (high - low) / 2 + 1) high (Some entry) after begun now'
halving-up entries upto low high before after entry begun now now' r h l s e t = let w = h.within in let f = h.forward in record {
  order = omega arith;
  within = w;
  below = λ i m. not-above entries upto (low + (high - low) / 2) i r (omega arith) (rw e at t) (omega arith);
  above = h.above;
  before_is = rw add-one (ap (λ (a : Entry). Some a) e);
  after_is = h.after_is;
  forward = omega arith;
  halves = halves-more (length entries) (high - low) (high - (low + (high - low) / 2 + 1)) begun now now' h.halves (omega arith) (omega arith) s;
}

-- a look at an entry that is above the number lowers high
pub halving-down : (entries : List Entry) (upto low high : ℕ) (before : Option Entry) (after entry : Entry) (begun now now' : ℕ) → Rising (reverse entries) → Halving entries upto low high before after begun now
    → low < high → now' ≡ now + 1 → entry ≡ get_or entries (low + (high - low) / 2) no_entry → upto < entry.event → Halving entries upto low (low + (high - low) / 2) before entry begun now'
halving-down entries upto low high before after entry begun now now' r h l s e t = let w = h.within in let f = h.forward in record {
  order = omega arith;
  within = omega arith;
  below = h.below;
  above = λ i m n. still-above entries upto (low + (high - low) / 2) i r (rw e at t) m n;
  before_is = h.before_is;
  after_is = e;
  forward = omega arith;
  halves = halves-more (length entries) (high - low) (low + (high - low) / 2 - low) begun now now' h.halves (omega arith) (omega arith) s;
}

-- where nothing is left, the number cuts the index
cut-at : (entries : List Entry) (upto low high : ℕ) (before : Option Entry) (after : Entry) (begun now : ℕ) → Halving entries upto low high before after begun now → high ≤ low → Cut upto low entries
cut-at entries upto low high before after begun now h l = let w = h.within in let o = h.order in record {
  within = omega arith;
  below = h.below;
  above = λ i m n. h.above i (omega arith) n;
}

-- where nothing is left, the entry kept before it answers a floor
pub before-found : (entries : List Entry) (upto low high : ℕ) (before : Option Entry) (after : Entry) (begun now : ℕ) → Halving entries upto low high before after begun now → high ≤ low
    → option_map (λ (a : Entry). a.position) before ≡ last_position upto (reverse entries)
before-found entries upto low high before after begun now h l =
    ap (λ (b : Option Entry). option_map (λ (a : Entry). a.position) b) h.before_is ∙ floor-at upto low entries (cut-at entries upto low high before after begun now h l)

-- where nothing is left, the entry kept after it answers what comes after
pub after-found : (entries : List Entry) (upto low high : ℕ) (before : Option Entry) (after : Entry) (begun now : ℕ) → Halving entries upto low high before after begun now → high ≤ low
    → Some after.event ≡ first_after upto (reverse entries)
after-found entries upto low high before after begun now h l =
    let w = h.within in
    let o = h.order in
    let e : high ≡ low = omega arith in
    ap (λ (a : Entry). Some a.event) (h.after_is ∙ ap (λ (k : ℕ). get_or entries k no_entry) e) ∙ sym (after-some upto low entries (cut-at entries upto low high before after begun now h l) (omega arith))
