-- Names that stand for their places.
use Rattle.std.proofs.Common.{◌≡◌, ℕ, suc, ◌+◌, Bool, true, false, not, ◌&&◌, ◌||◌, List, [], ◌∷◌, ◌++◌, length, Option, Some, None, refl, sym, ap, subst, ◌∙◌, arith}
use Rattle.std.specs.Prelude.{if◌then◌else◌, is_some}
use Rattle.std.specs.Str.{bytes_eq}
use Rattle.std.specs.Cmp.Lexicographic.{nat_list_eq_equiv}
use Rattle.name_scopes.specs.Names.{found, added}
use Rattle.log_lines.specs.Fields.{Text}
use Rattle.log_lines.specs.Values.{Names, is_name, is_among, place_among, names_with}
use Rattle.log_reading.specs.Inner.{names_of, AreNumbered}

-- ---- a name that is found

place_step : (b : Bool) (w v n p : ℕ) (o : Option ℕ) (among : Bool) → w ≡ n → (o ≡ Some v → (among ≡ true) × (v ≡ suc n + p)) → (if b then Some w else o) ≡ Some v
    → ((b || among) ≡ true) × (v ≡ n + (if b then 0 else suc p))
place_step true w v n p o among same g h = let e : w ≡ v = cc in (refl, omega (arith, e, same))
place_step false w v n p o among same g h = let r = g h in (r.0, omega (arith, r.1))

found_place : (n : ℕ) (es : List (Text × ℕ)) (f : Text) (v : ℕ) → AreNumbered n es → found es f ≡ Some v → (is_among (names_of es) f ≡ true) × (v ≡ n + place_among (names_of es) f)
found_place n [] f v a h = absurd (cc)
found_place n (e ∷ es) f v a h =
    subst (λ b. ((b || is_among (names_of es) f) ≡ true) × (v ≡ n + (if b then 0 else suc (place_among (names_of es) f)))) (nat_list_eq_equiv.symm f e.0)
    (place_step (bytes_eq f e.0) e.1 v n (place_among (names_of es) f) (found es f) (is_among (names_of es) f) a.0 (λ h. found_place (suc n) es f v a.1 h) h)

kept_by : (a b : Bool) (names : Names) (f : Text) → b ≡ true → (if a && not b then names ++ f ∷ [] else names) ≡ names
kept_by true true names f h = refl
kept_by true false names f h = absurd (cc)
kept_by false b names f h = refl

-- a name that is found has the number of its place, and the names stay
pub found_number : (es : List (Text × ℕ)) (f : Text) (v : ℕ) → AreNumbered 0 es → found es f ≡ Some v → (v ≡ place_among (names_of es) f) × (names_of es ≡ names_with (names_of es) f)
found_number es f v a h =
    let r = found_place 0 es f v a h in
    (omega (arith, r.1), sym (kept_by (is_name f) (is_among (names_of es) f) (names_of es) f r.0))

-- ---- a name that is not found

none_step : (b : Bool) (w p l : ℕ) (o : Option ℕ) (among : Bool) → (o ≡ None → (among ≡ false) × (p ≡ l)) → (if b then Some w else o) ≡ None
    → ((b || among) ≡ false) × ((if b then 0 else suc p) ≡ suc l)
none_step true w p l o among g h = absurd (cc)
none_step false w p l o among g h = let r = g h in (r.0, ap suc r.1)

none_place : (es : List (Text × ℕ)) (f : Text) → found es f ≡ None → (is_among (names_of es) f ≡ false) × (place_among (names_of es) f ≡ length es)
none_place [] f h = (refl, refl)
none_place (e ∷ es) f h =
    subst (λ b. ((b || is_among (names_of es) f) ≡ false) × ((if b then 0 else suc (place_among (names_of es) f)) ≡ suc (length es))) (nat_list_eq_equiv.symm f e.0)
    (none_step (bytes_eq f e.0) e.1 (place_among (names_of es) f) (length es) (found es f) (is_among (names_of es) f) (none_place es f) h)

names_more : (es : List (Text × ℕ)) (f : Text) (v : ℕ) → names_of (es ++ (f, v) ∷ []) ≡ names_of es ++ f ∷ []
names_more [] f v = refl
names_more (e ∷ es) f v = ap (λ (names : Names). e.0 ∷ names) (names_more es f v)

grown_by : (a b : Bool) (names : Names) (f : Text) → a ≡ true → b ≡ false → (if a && not b then names ++ f ∷ [] else names) ≡ names ++ f ∷ []
grown_by true false names f g h = refl
grown_by true true names f g h = absurd (cc)
grown_by false b names f g h = absurd (cc)

numbered_more : (n : ℕ) (es : List (Text × ℕ)) (f : Text) (v : ℕ) → v ≡ n + length es → AreNumbered n es → AreNumbered n (es ++ (f, v) ∷ [])
numbered_more n [] f v e a = (omega (arith, e), tt)
numbered_more n (x ∷ es) f v e a = (a.0, numbered_more (suc n) es f v (omega (arith, e)) a.1)

added_is : (es : List (Text × ℕ)) (f : Text) (v : ℕ) (o : Option ℕ) → o ≡ None → (if is_some o then es else es ++ (f, v) ∷ []) ≡ es ++ (f, v) ∷ []
added_is es f v None h = refl
added_is es f v (Some w) h = absurd (cc)

pub record New (es : List (Text × ℕ)) (f : Text) (v : ℕ) : Type 0 where
  pub place : v ≡ place_among (names_of es) f
  pub names : names_of (added es f v) ≡ names_with (names_of es) f
  pub numbered : AreNumbered 0 (added es f v)

-- a new name gets the next number
pub new_number : (es : List (Text × ℕ)) (f : Text) (v : ℕ) → AreNumbered 0 es → found es f ≡ None → is_name f ≡ true → v ≡ length es → New es f v
new_number es f v a h is e =
    let r = none_place es f h in
    let more = added_is es f v (found es f) h in
    record {
      place = e ∙ sym r.1;
      names = ap names_of more ∙ names_more es f v ∙ sym (grown_by (is_name f) (is_among (names_of es) f) (names_of es) f is r.0);
      numbered = subst (AreNumbered 0) (sym more) (numbered_more 0 es f v (omega (arith, e)) a);
    }
