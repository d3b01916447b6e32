-- Lemmas on what a search found.
use Rattle.std.specs.Prelude.{◌≡◌, ◌⊎◌, ◌^◌, ◌<◌, ◌≤◌, ◌+◌, ◌-◌, ◌&&◌, ℕ, zero, suc, option_map, option_and_then, is_none, Bool, true, false, List, [], ◌∷◌, Option, Some, None, IsSome, is_some, All, refl}
use Rattle.std.proofs.Common.{sym, ◌∙◌, ap, subst, inl, inr, arith, zero-add}
use Rattle.std.proofs.Math.Nat.{suc-add}
use Rattle.std.proofs.Math.Bool.{and-true}
use Rattle.std.proofs.lemmas.Bool.{and_parts}
use Rattle.std.proofs.lemmas.Bool.Decides.{leb_tells}
use Rattle.std.specs.BTreeMap.{BTreeMap, Updates}
use Rattle.std.specs.Map.{lookup, IsKeyTest, AreApart, KeepsOthers}
use Rattle.std.specs.Ordering.{is_eq, nat_cmp}
use Rattle.std.specs.declared.cmp.Ordering.{Ordering}
use Rattle.std.specs.Cmp.{eq_by_cmp_equiv}
use Rattle.std.specs.Cmp.Lexicographic.{slice_cmp, bytes_decides, nat_list_cmp_total, nat_list_eq_equiv}
use Rattle.std.specs.Str.{bytes_eq}
use Rattle.std.proofs.lemmas.Map.Text.{is_eq-slice_cmp}
use Rattle.std.specs.Global.{Vec}
use Rattle.odometer.specs.Trees.{Tree, Leaf, Node, leaf, AllLeaves}
use Rattle.odometer.specs.Odometer.{IsPick, path, next, nth, nth_leaf, says, all_say, is_searched, Before, Onward}
use Rattle.odometer.proofs.TreeLaws.{lower, before_path, onward, picks_of_path}
use Rattle.odometer.specs.declared.picks.Pick.{Pick}
use Rattle.odometer.specs.Found.{numbers_at, Shown, AreNumbers, IsAmongFound, HasRuns, Keeps, RanOn}

module _ {A : Type 0} (P Q : A → Type 0) (more : (a : A) → P a → Q a) where
  pub before_more : (t : Tree A) (ks : List ℕ) → Before P t ks → Before Q t ks
  before_more (Leaf a) ks h = tt
  before_more (Node n kids) [] h = tt
  before_more (Node n kids) (k ∷ ks) h = (h.0, λ j l ps. more (leaf (kids j) ps) (h.1 j l ps), before_more (kids k) ks h.2)

-- what was found before is still found
pub among_more : (m n : BTreeMap (Vec ℕ) (Vec ℕ)) (text numbers : List ℕ) → Keeps m n text numbers → (o : Option (List ℕ)) → IsAmongFound m o → IsAmongFound n o
among_more m n text numbers k None h = absurd h
among_more m n text numbers k (Some other) h = k.stay other h

pub among_here : (n : BTreeMap (Vec ℕ) (Vec ℕ)) (text : List ℕ) (o : Option (List ℕ)) → o ≡ Some text → IsSome (numbers_at n text) → IsAmongFound n o
among_here n text o e h = subst (IsAmongFound n) (sym e) h

pub shown_more : (shows : List ℕ → Option (List ℕ)) (m n : BTreeMap (Vec ℕ) (Vec ℕ)) (text schedule : List ℕ) → Keeps m n text schedule → shows schedule ≡ Some text → Shown shows m → Shown shows n
shown_more shows m n text schedule k here h other v e = by (k.each other v e)
  where
    by : (numbers_at m other ≡ Some v) ⊎ ((other ≡ text) × (v.items ≡ schedule)) → shows v.items ≡ Some other
    by (inl e) = h other v e
    by (inr e) = ap shows e.1 ∙ here ∙ ap Some (sym e.0)

pub numbers_more : (m n : BTreeMap (Vec ℕ) (Vec ℕ)) (text schedule : List ℕ) → Keeps m n text schedule → All (λ n. n < 2 ^ 32) schedule → AreNumbers m → AreNumbers n
numbers_more m n text schedule k fit h other v e = by (k.each other v e)
  where
    by : (numbers_at m other ≡ Some v) ⊎ ((other ≡ text) × (v.items ≡ schedule)) → All (λ n. n < 2 ^ 32) v.items
    by (inl e) = h other v e
    by (inr e) = subst (All (λ n. n < 2 ^ 32)) (sym e.1) fit

-- a run with a text that is kept
pub goes_onward : (t : Tree (Option (List ℕ))) (m n : BTreeMap (Vec ℕ) (Vec ℕ)) (text numbers schedule : List ℕ) → Keeps m n text schedule → leaf t numbers ≡ Some text
    → Before (IsAmongFound m) t numbers → Onward (IsAmongFound n) t (next (path t numbers))
goes_onward t m n text numbers schedule k e h =
    onward (IsAmongFound n) t numbers (before_path (IsAmongFound n) t numbers (before_more (IsAmongFound m) (IsAmongFound n) (among_more m n text schedule k) t numbers h))
    (among_here n text (leaf t numbers) e k.here)

pub onward_none : (P : Option (List ℕ) → Type 0) (t : Tree (Option (List ℕ))) (o : Option (List ℕ)) → o ≡ None → Onward P t o → AllLeaves P t
onward_none P t o e h = subst (Onward P t) e h

pub onward_some : (P : Option (List ℕ) → Type 0) (t : Tree (Option (List ℕ))) (o : Option (List ℕ)) (ks : List ℕ) → o ≡ Some ks → Onward P t o → Before P t ks
onward_some P t o ks e h = subst (Onward P t) e h

-- ---- the map

module _ {K : Type 0} (eq : K → K → Bool) (test : K → Bool) where
  other_entries : {X : Type 0} (old new : List (K × X)) → KeepsOthers eq test old new → (other : K → Bool) → IsKeyTest eq other → AreApart test other → lookup other new ≡ lookup other old
  unfolding KeepsOthers
  other_entries old new h = h

apart : (bs cs ks : List ℕ) → bytes_eq bs cs ≡ false → bytes_eq bs ks ≡ true → bytes_eq cs ks ≡ false
apart bs cs ks n y = nat_list_eq_equiv.symm cs ks ∙ sym (nat_list_eq_equiv.congr bs ks cs y) ∙ n

apart_in_order : (bs cs ks : List ℕ) → bytes_eq bs cs ≡ false → is_eq (slice_cmp nat_cmp bs ks) ≡ true → is_eq (slice_cmp nat_cmp cs ks) ≡ false
apart_in_order bs cs ks n y = is_eq-slice_cmp cs ks ∙ apart bs cs ks n (sym (is_eq-slice_cmp bs ks) ∙ y)

abbrev pub text_cmp : Vec ℕ → Vec ℕ → Ordering
text_cmp x y = slice_cmp nat_cmp x.items y.items

pub other_texts : (m n : BTreeMap (Vec ℕ) (Vec ℕ)) (k : Vec ℕ) (w : Option (Vec ℕ)) → Updates text_cmp m n k w → (cs : List ℕ) → bytes_eq k.items cs ≡ false → numbers_at n cs ≡ numbers_at m cs
other_texts m n k w h cs e = other_entries _ _ _ _ h.3 _ (λ x y. (eq_by_cmp_equiv nat_list_cmp_total).congr cs x.items y.items) (λ q. apart_in_order k.items cs q.items e)

-- a text that was not there is put there
pub keeps_new : (m n : BTreeMap (Vec ℕ) (Vec ℕ)) (k v : Vec ℕ) (text numbers : List ℕ) → Updates text_cmp m n k (Some v) → k.items ≡ text → v.items ≡ numbers → Keeps m n text numbers
keeps_new m n k v text numbers h same made =
    let at : numbers_at n text ≡ Some v = ap (numbers_at n) (sym same) ∙ h.1 in
    record {
      here = subst IsSome (sym at) refl;
      each = λ other w e. by_each other w e (bytes_eq k.items other) refl;
      stay = λ other s. by_stay other s (bytes_eq k.items other) refl;
    }
  where
    by_each : (other : List ℕ) (w : Vec ℕ) → numbers_at n other ≡ Some w → (b : Bool) → bytes_eq k.items other ≡ b → (numbers_at m other ≡ Some w) ⊎ ((other ≡ text) × (w.items ≡ numbers))
    by_each other w e true b =
        let there : k.items ≡ other = (bytes_decides k.items other).0 b in
        let both : Some v ≡ Some w = sym h.1 ∙ ap (numbers_at n) there ∙ e in
        let one : v ≡ w = cc in
        inr (sym there ∙ same, ap (λ (x : Vec ℕ). x.items) (sym one) ∙ made)
    by_each other w e false b = inl (sym (other_texts m n k (Some v) h other b) ∙ e)

    by_stay : (other : List ℕ) → IsSome (numbers_at m other) → (b : Bool) → bytes_eq k.items other ≡ b → IsSome (numbers_at n other)
    by_stay other s true b = subst IsSome (sym (ap (numbers_at n) (sym ((bytes_decides k.items other).0 b)) ∙ h.1)) refl
    by_stay other s false b = subst IsSome (sym (other_texts m n k (Some v) h other b)) s

pub keeps_old : (m : BTreeMap (Vec ℕ) (Vec ℕ)) (text numbers : List ℕ) → is_some (numbers_at m text) ≡ true → Keeps m m text numbers
keeps_old m text numbers h = record { here = h; each = λ other v e. inl e; stay = λ other h. h }

-- ---- a run

pub run_kept : (t : Tree (Option (List ℕ))) (shows : List ℕ → Option (List ℕ)) (m n : BTreeMap (Vec ℕ) (Vec ℕ)) (text numbers schedule : List ℕ) → leaf t numbers ≡ Some text → shows schedule ≡ Some text → Keeps m n text schedule
    → All (λ n. n < 2 ^ 32) schedule → RanOn t shows m n numbers
run_kept t shows m n text numbers schedule e f k fit = record {
  fits = numbers_more m n text schedule k fit;
  shown = shown_more shows m n text schedule k f;
  here = λ other o. let same : text ≡ other = cc in subst (λ x. IsSome (numbers_at n x)) same k.here;
  stay = k.stay;
  onward = λ b. goes_onward t m n text numbers schedule k e;
}

pub run_silent : (t : Tree (Option (List ℕ))) (shows : List ℕ → Option (List ℕ)) (m : BTreeMap (Vec ℕ) (Vec ℕ)) (numbers : List ℕ) → leaf t numbers ≡ None → RanOn t shows m m numbers
run_silent t shows m numbers e = record {
  shown = λ h. h;
  fits = λ h. h;
  here = λ text o. let no : None ≡ Some text = cc in cc;
  stay = λ text h. h;
  onward = λ b. let no : false ≡ true = sym (ap is_some e) ∙ b in cc;
}

pub run_picks : (t : Tree (Option (List ℕ))) (numbers : List ℕ) (made : List Pick) → made ≡ path t numbers → All IsPick made
run_picks t numbers made e = subst (All IsPick) (sym e) (picks_of_path t numbers)

pub none_shown : (shows : List ℕ → Option (List ℕ)) (m : BTreeMap (Vec ℕ) (Vec ℕ)) → m.entries ≡ [] → Shown shows m
none_shown shows m e text v h =
    let test : Vec ℕ → Bool = λ k. is_eq (slice_cmp nat_cmp text k.items) in
    let none : lookup test m.entries ≡ None = ap (lookup test) e in
    let no : None ≡ Some v = sym none ∙ h in
    cc

pub none_numbers : (m : BTreeMap (Vec ℕ) (Vec ℕ)) → m.entries ≡ [] → AreNumbers m
none_numbers m e text v h =
    let test : Vec ℕ → Bool = λ k. is_eq (slice_cmp nat_cmp text k.items) in
    let none : lookup test m.entries ≡ None = ap (lookup test) e in
    let no : None ≡ Some v = sym none ∙ h in
    cc

-- ---- the runs so far

module _ (t : Tree (Option (List ℕ))) where
  -- one run more
  pub one_more : (shows : List ℕ → Option (List ℕ)) (m n : BTreeMap (Vec ℕ) (Vec ℕ)) (numbers : List ℕ) (k : ℕ) → nth t k ≡ Some numbers → RanOn t shows m n numbers → HasRuns m t k → HasRuns n t (suc k)
  one_more shows m n numbers k e ran has j l text o = by (lower j k l)
    where
      by : (j < k) ⊎ (j ≡ k) → IsSome (numbers_at n text)
      by (inl h) = ran.stay text (has j h text o)
      by (inr h) =
          let at : nth_leaf t j ≡ Some (leaf t numbers) = ap (nth_leaf t) h ∙ ap (option_map (leaf t)) e in
          let both : Some (leaf t numbers) ≡ Some (Some text) = sym at ∙ o in
          let one : leaf t numbers ≡ Some text = cc in
          ran.here text one

  pub say_more : (numbers : List ℕ) (k : ℕ) (whole says_it : Bool) → nth t k ≡ Some numbers → whole ≡ all_say t k → says_it ≡ is_some (leaf t numbers) → all_say t (suc k) ≡ whole && says_it
  say_more numbers k whole says_it e w h = ap (λ o. all_say t k && says (option_map (leaf t) o)) e ∙ ap (λ b. b && is_some (leaf t numbers)) (sym w) ∙ ap (λ b. whole && b) (sym h)

  -- no run follows the last one
  none_later : (k j : ℕ) → nth t k ≡ None → nth t (j + k) ≡ None
  none_later k zero e = ap (nth t) (zero-add k) ∙ e
  none_later k (suc j) e = ap (nth t) (suc-add j k) ∙ ap (option_and_then (λ ks. next (path t ks))) (none_later k j e)

  say_later : (k j : ℕ) → nth t k ≡ None → all_say t (j + k) ≡ all_say t k
  say_later k zero e = ap (all_say t) (zero-add k)
  say_later k (suc j) e = ap (all_say t) (suc-add j k) ∙ ap (λ o. all_say t (j + k) && says (option_map (leaf t) o)) (none_later k j e) ∙ and-true (all_say t (j + k)) ∙ say_later k j e

  -- where there is no run after the first k, what holds of these holds of the first n, for any n of at least k
  pub searched : (k n : ℕ) → k ≤ n → nth t k ≡ None → is_searched t n ≡ all_say t k
  searched k n l e =
      let same : n - k + k ≡ n = omega (arith, l) in
      ap (is_searched t) (sym same) ∙ ap (λ o. is_none o && all_say t (n - k + k)) (none_later k (n - k) e) ∙ say_later k (n - k) e

  pub all_found : (m : BTreeMap (Vec ℕ) (Vec ℕ)) (k n : ℕ) → nth t k ≡ None → HasRuns m t k → HasRuns m t n
  all_found m k n e has j l text o = elim (leb_tells k j) [
    | inl h ↦
        let same : j - k + k ≡ j = omega (arith, h.1) in
        let at : nth_leaf t j ≡ None = ap (nth_leaf t) (sym same) ∙ ap (option_map (leaf t)) (none_later k (j - k) e) in
        let no : None ≡ Some (Some text) = sym at ∙ o in
        cc
    | inr h ↦ has j h.1 text o
  ]

-- what holds after the run with number k, whose picks were these
pub record WentOn (t : Tree (Option (List ℕ))) (shows : List ℕ → Option (List ℕ)) (n : BTreeMap (Vec ℕ) (Vec ℕ)) (made : List Pick) (k : ℕ) (so_far : Bool) : Type 0 where
  pub shown : Shown shows n
  pub numbers : AreNumbers n
  pub found : HasRuns n t (k + 1)
  pub whole : so_far ≡ all_say t (k + 1)
  pub further : nth t (k + 1) ≡ next made
  pub onward : so_far ≡ true → Onward (IsAmongFound n) t (next made)

pub went_on : (t u : Tree (Option (List ℕ))) (shows shows_all : List ℕ → Option (List ℕ)) (m n : BTreeMap (Vec ℕ) (Vec ℕ)) (numbers given : List ℕ) (made : List Pick) (k : ℕ) (whole says_it so_far : Bool)
    → t ≡ u → shows ≡ shows_all → given ≡ numbers → nth u k ≡ Some numbers → RanOn t shows m n given → made ≡ path t given → Shown shows_all m → AreNumbers m → HasRuns m u k → whole ≡ all_say u k
    → (whole ≡ true → Before (IsAmongFound m) u numbers) → says_it ≡ is_some (leaf t given) → so_far ≡ (whole && says_it) → WentOn u shows_all n made k so_far
went_on t u shows shows_all m n numbers given made k whole says_it so_far same same_shows there e ran p shown fit has w before h both =
    let one : suc k ≡ k + 1 = omega arith in
    let at : nth u k ≡ Some given = e ∙ ap Some (sym there) in
    let by : RanOn u shows_all m n given = subst (λ t. RanOn t shows_all m n given) same (subst (λ shows. RanOn t shows m n given) same_shows ran) in
    let says_so : says_it ≡ is_some (leaf u given) = h ∙ ap (λ t. is_some (leaf t given)) same in
    let picks : made ≡ path u given = p ∙ ap (λ t. path t given) same in
    record {
      shown = by.shown shown;
      numbers = by.fits fit;
      found = subst (HasRuns n u) one (one_more u shows_all m n given k at by has);
      whole = both ∙ sym (say_more u given k whole says_it at w says_so) ∙ ap (all_say u) one;
      further = ap (nth u) (sym one) ∙ ap (option_and_then (λ ks. next (path u ks))) at ∙ ap next (sym picks);
      onward =
          λ b.
          let parts = and_parts whole says_it (sym both ∙ b) in
          let so : Before (IsAmongFound m) u given = subst (Before (IsAmongFound m) u) (sym there) (before parts.0) in
          subst (λ ps. Onward (IsAmongFound n) u (next ps)) (sym picks) (by.onward (sym says_so ∙ parts.1) so);
    }

-- the same where no run follows
pub over_found : (t : Tree (Option (List ℕ))) (shows : List ℕ → Option (List ℕ)) (n : BTreeMap (Vec ℕ) (Vec ℕ)) (made : List Pick) (k runs : ℕ) (so_far : Bool) → WentOn t shows n made k so_far → next made ≡ None → HasRuns n t runs
over_found t shows n made k runs so_far w e = all_found t n (k + 1) runs (w.further ∙ e) w.found

pub over_left : (t : Tree (Option (List ℕ))) (shows : List ℕ → Option (List ℕ)) (n : BTreeMap (Vec ℕ) (Vec ℕ)) (made : List Pick) (k runs : ℕ) (so_far : Bool) → k < runs → WentOn t shows n made k so_far → next made ≡ None → is_some (nth t runs) ≡ false
over_left t shows n made k runs so_far l w e =
    let same : runs - (k + 1) + (k + 1) ≡ runs = omega (arith, l) in
    ap (λ m. is_some (nth t m)) (sym same) ∙ ap is_some (none_later t (k + 1) (runs - (k + 1)) (w.further ∙ e))

pub over_says : (t : Tree (Option (List ℕ))) (shows : List ℕ → Option (List ℕ)) (n : BTreeMap (Vec ℕ) (Vec ℕ)) (made : List Pick) (k runs : ℕ) (so_far : Bool) → k < runs → WentOn t shows n made k so_far → next made ≡ None → so_far ≡ all_say t runs
over_says t shows n made k runs so_far l w e =
    let same : runs - (k + 1) + (k + 1) ≡ runs = omega (arith, l) in
    w.whole ∙ sym (say_later t (k + 1) (runs - (k + 1)) (w.further ∙ e)) ∙ ap (all_say t) same

pub over_whole : (t : Tree (Option (List ℕ))) (shows : List ℕ → Option (List ℕ)) (n : BTreeMap (Vec ℕ) (Vec ℕ)) (made : List Pick) (k runs : ℕ) (so_far : Bool) → k < runs → WentOn t shows n made k so_far → next made ≡ None → so_far ≡ is_searched t runs
over_whole t shows n made k runs so_far l w e = w.whole ∙ sym (searched t (k + 1) runs (omega (arith, l)) (w.further ∙ e))

pub over_all : (t : Tree (Option (List ℕ))) (shows : List ℕ → Option (List ℕ)) (n : BTreeMap (Vec ℕ) (Vec ℕ)) (made : List Pick) (k : ℕ) (so_far : Bool) → WentOn t shows n made k so_far → next made ≡ None → so_far ≡ true → AllLeaves (IsAmongFound n) t
over_all t shows n made k so_far w e b = onward_none (IsAmongFound n) t (next made) e (w.onward b)

-- where as many runs were made as were asked for, and there is a further one
pub left_some : (t : Tree (Option (List ℕ))) (runs : ℕ) (numbers : List ℕ) → nth t runs ≡ Some numbers → true ≡ is_some (nth t runs)
left_some t runs numbers e = sym (ap is_some e)

pub left_unsearched : (t : Tree (Option (List ℕ))) (n : BTreeMap (Vec ℕ) (Vec ℕ)) (runs : ℕ) (numbers : List ℕ) → nth t runs ≡ Some numbers → is_searched t runs ≡ true → AllLeaves (IsAmongFound n) t
left_unsearched t n runs numbers e h =
    let no : false ≡ true = sym (ap (λ o. is_none o && all_say t runs) e) ∙ h in
    cc
