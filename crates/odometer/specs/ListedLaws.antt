-- Lemmas on the entries of what was found.
use Rattle.std.specs.Prelude.{◌≡◌, ◌<◌, ◌^◌, ℕ, zero, suc, Bool, true, false, List, [], ◌∷◌, map, Option, Some, IsSome, All, slice_index_or, if◌then◌else◌, refl}
use Rattle.std.proofs.Common.{sym, ◌∙◌, arith}
use Rattle.std.specs.List.{Contains, AllByRecursion}
use Rattle.std.specs.List.Sorted.{IsStrictlySortedBy}
use Rattle.std.specs.BTreeMap.{BTreeMap, IsOrdered}
use Rattle.std.specs.Map.{lookup, keys_of}
use Rattle.std.specs.Global.{Vec}
use Rattle.std.specs.Cmp.{IsTotalOrder}
use Rattle.std.specs.Cmp.Lexicographic.{slice_cmp, bytes_decides}
use Rattle.std.specs.Ordering.{is_eq, nat_cmp}
use Rattle.std.specs.declared.cmp.Ordering.{Ordering}
use Rattle.std.specs.declared.cmp.Ordering.TheVariants.{Less}
use Rattle.std.proofs.lemmas.Cmp.{nat_list_cmp_total}
use Rattle.std.proofs.lemmas.Map.Text.{is_eq-slice_cmp}
use Rattle.std.proofs.lemmas.Map.Views.{All-found}
use Rattle.odometer.specs.Found.{numbers_at, Shown, AreNumbers}

abbrev pub text_cmp : Vec ℕ → Vec ℕ → Ordering
text_cmp x y = slice_cmp nat_cmp x.items y.items

text_total : IsTotalOrder text_cmp
text_total = record {
  antisymm = λ x y. nat_list_cmp_total.antisymm x.items y.items;
  trans = λ x y z. nat_list_cmp_total.trans x.items y.items z.items;
  congr = λ x y z. nat_list_cmp_total.congr x.items y.items z.items;
}

-- each text stands with a schedule that shows it
pub entries_shown : (shows : List ℕ → Option (List ℕ)) (m : BTreeMap (Vec ℕ) (Vec ℕ)) → Shown shows m → IsOrdered text_cmp m → All (λ (e : Vec ℕ × Vec ℕ). shows e.1.items ≡ Some e.0.items) m.entries
entries_shown shows m h ordered k d l =
    let e : Vec ℕ × Vec ℕ = slice_index_or m.entries k d in
    h e.0.items e.1 (All-found text_total m ordered k d l)

-- and with numbers of 32 bits
pub entries_fit : (m : BTreeMap (Vec ℕ) (Vec ℕ)) → AreNumbers m → IsOrdered text_cmp m → All (λ (e : Vec ℕ × Vec ℕ). All (λ n. n < 2 ^ 32) e.1.items) m.entries
entries_fit m h ordered k d l =
    let e : Vec ℕ × Vec ℕ = slice_index_or m.entries k d in
    h e.0.items e.1 (All-found text_total m ordered k d l)

abbrev pub entry_text : Vec ℕ × Vec ℕ → List ℕ
entry_text e = e.0.items

-- the texts rise
all_less : (x : Vec ℕ) (es : List (Vec ℕ × Vec ℕ)) → AllByRecursion (λ y. text_cmp x y ≡ Less) (keys_of es) → AllByRecursion (λ y. slice_cmp nat_cmp x.items y ≡ Less) (map entry_text es)
all_less x [] h = h
all_less x (e ∷ es) h = (h.0, all_less x es h.1)

rises : (es : List (Vec ℕ × Vec ℕ)) → IsStrictlySortedBy text_cmp (keys_of es) → IsStrictlySortedBy (slice_cmp nat_cmp) (map entry_text es)
unfolding IsStrictlySortedBy
rises [] h = h
rises (e ∷ es) h = (all_less e.0 es h.0, rises es h.1)

pub texts_rise : (m : BTreeMap (Vec ℕ) (Vec ℕ)) → IsOrdered text_cmp m → IsStrictlySortedBy (slice_cmp nat_cmp) (map entry_text m.entries)
texts_rise m h = rises m.entries h

-- a text that is found is one of them
listed_later : (x text : List ℕ) (xs : List (List ℕ)) → Contains xs text → Contains (x ∷ xs) text
listed_later x text xs (k, l, e) = (suc k, omega (arith, l), e)

listed_by : (text : List ℕ) (es : List (Vec ℕ × Vec ℕ)) → IsSome (lookup (λ (k : Vec ℕ). is_eq (slice_cmp nat_cmp text k.items)) es) → Contains (map entry_text es) text
listed_by text [] h = cc
listed_by text (e ∷ es) h = by (is_eq (slice_cmp nat_cmp text e.0.items)) refl h (listed_by text es)
  where
    by : (b : Bool) → is_eq (slice_cmp nat_cmp text e.0.items) ≡ b → IsSome (if b then Some e.1 else lookup (λ (k : Vec ℕ). is_eq (slice_cmp nat_cmp text k.items)) es)
        → (IsSome (lookup (λ (k : Vec ℕ). is_eq (slice_cmp nat_cmp text k.items)) es) → Contains (map entry_text es) text) → Contains (map entry_text (e ∷ es)) text
    by true is h more = (zero, omega arith, sym ((bytes_decides text e.0.items).0 (sym (is_eq-slice_cmp text e.0.items) ∙ is)))
    by false is h more = listed_later e.0.items text (map entry_text es) (more h)

pub text_listed : (m : BTreeMap (Vec ℕ) (Vec ℕ)) (text : List ℕ) → IsSome (numbers_at m text) → Contains (map entry_text m.entries) text
text_listed m text h = listed_by text m.entries h
