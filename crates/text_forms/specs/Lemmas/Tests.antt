-- Small facts on tests, symbols and what comes next.
use Rattle.std.proofs.Common.{◌≡◌, ℕ, Bool, true, false, cond, List, [], ◌∷◌, ◌++◌, Option, Some, None, Result, Ok, Err, refl, sym, ap, ◌∙◌, inl, inr}
use Rattle.std.specs.Prelude.{◌&&◌, ◌||◌, not, ◌⊎◌, ◌==◌}
use Rattle.text_forms.specs.declared.symbol.Symbol.{Symbol}
use Rattle.text_forms.specs.declared.fault.Fault.{Fault}
use denote.Enum.Bare.{same_true}
use Rattle.text_forms.specs.contracts.symbol.Symbol.{the_type}
use Rattle.text_forms.specs.Tokens.{Tok, same, has, at, first, fault_at}
use Rattle.text_forms.specs.Forms.{Flags, no_flag, one_flag, two_flags, three_flags, every}
use Rattle.text_forms.specs.Begins.{apart, only, union, gather}
use Rattle.text_forms.specs.Reading.{◌>>=◌}

pub and_true : (a b : Bool) → a && b ≡ true → (a ≡ true) × (b ≡ true)
and_true true b e = (refl, e)
and_true false b e = absurd cc

pub both_true : (a b : Bool) → a ≡ true → b ≡ true → a && b ≡ true
both_true true b d e = e
both_true false b d e = absurd cc

pub not_true : (a : Bool) → not a ≡ true → a ≡ false
not_true true e = absurd cc
not_true false e = refl

pub false_not : (a : Bool) → a ≡ false → not a ≡ true
false_not true e = absurd cc
false_not false e = refl

pub or_false : (a b : Bool) → a || b ≡ false → (a ≡ false) × (b ≡ false)
or_false true b e = absurd cc
or_false false b e = (refl, e)

pub or_true : (a b : Bool) → a || b ≡ true → (a ≡ true) ⊎ (b ≡ true)
or_true true b e = inl refl
or_true false b e = inr e

pub or_right : (a b : Bool) → b ≡ true → a || b ≡ true
or_right true b e = refl
or_right false b e = e

pub or_left : (a b : Bool) → a ≡ true → a || b ≡ true
or_left true b e = refl
or_left false b e = absurd cc

pub and_false : (a b : Bool) → a && b ≡ false → (a ≡ false) ⊎ (b ≡ false)
and_false true b e = inr e
and_false false b e = inl refl

pub is_false : (b : Bool) → (b ≡ true → ⊥) → b ≡ false
is_false true h = absurd (h refl)
is_false false h = refl

-- ---- symbols among others

pub is_same : (a b : Symbol) → same a b ≡ true → a ≡ b
is_same a b e = same_true the_type tt a b e

pub has_append : (xs ys : List Symbol) (s : Symbol) → has (xs ++ ys) s ≡ (has xs s || has ys s)
has_append [] ys s = refl
has_append (x ∷ xs) ys s = elim (same x s) as (λ b. (b || has (xs ++ ys) s) ≡ ((b || has xs s) || has ys s)) [ true ↦ refl | false ↦ has_append xs ys s ]

pub has_none : (xs ys : List Symbol) (s : Symbol) → has (xs ++ ys) s ≡ false → (has xs s ≡ false) × (has ys s ≡ false)
has_none xs ys s e = or_false (has xs s) (has ys s) (sym (has_append xs ys s) ∙ e)

pub has_left : (xs ys : List Symbol) (s : Symbol) → has xs s ≡ true → has (xs ++ ys) s ≡ true
has_left xs ys s e = has_append xs ys s ∙ or_left _ _ e

pub has_right : (xs ys : List Symbol) (s : Symbol) → has ys s ≡ true → has (xs ++ ys) s ≡ true
has_right xs ys s e = has_append xs ys s ∙ or_right _ _ e

pub apart_has : (xs ys : List Symbol) (s : Symbol) → apart xs ys ≡ true → has xs s ≡ true → has ys s ≡ false
apart_has [] ys s a h = absurd cc
apart_has (x ∷ xs) ys s a h =
    let p = and_true (not (has ys x)) (apart xs ys) a in
    elim (or_true (same x s) (has xs s) h) [
      | inl e ↦ ap (has ys) (sym (is_same x s e)) ∙ not_true _ p.0
      | inr e ↦ apart_has xs ys s p.1 e
    ]

pub apart_not : (xs ys : List Symbol) (s : Symbol) → apart xs ys ≡ true → has ys s ≡ true → has xs s ≡ false
apart_not xs ys s a h = is_false (has xs s) (λ e. let p = apart_has xs ys s a e in cc)

pub only_has : (xs ys : List Symbol) (s : Symbol) → only xs ys ≡ true → has ys s ≡ true → has xs s ≡ true
only_has xs [] s a h = absurd cc
only_has xs (y ∷ ys) s a h =
    let p = and_true (has xs y) (only xs ys) a in
    elim (or_true (same y s) (has ys s) h) [
      | inl e ↦ ap (has xs) (sym (is_same y s e)) ∙ p.0
      | inr e ↦ only_has xs ys s p.1 e
    ]

pub union_right : (xs ys : List Symbol) (s : Symbol) → has ys s ≡ true → has (union xs ys) s ≡ true
union_right [] ys s h = h
union_right (x ∷ xs) ys s h =
    elim (has ys x) as (λ b. has (cond b (union xs ys) (x ∷ union xs ys)) s ≡ true) [ true ↦ union_right xs ys s h | false ↦ or_right _ _ (union_right xs ys s h) ]

union_step : (x : Symbol) (xs ys : List Symbol) (s : Symbol) (b : Bool) → has ys x ≡ b → (has xs s ≡ true → has (union xs ys) s ≡ true) → has (x ∷ xs) s ≡ true → has (cond b (union xs ys) (x ∷ union xs ys)) s ≡ true
union_step x xs ys s true e ih h = elim (or_true (same x s) (has xs s) h) [ inl k ↦ union_right xs ys s (ap (has ys) (sym (is_same x s k)) ∙ e) | inr k ↦ ih k ]
union_step x xs ys s false e ih h = elim (or_true (same x s) (has xs s) h) [ inl k ↦ or_left _ _ k | inr k ↦ or_right _ _ (ih k) ]

pub union_left : (xs ys : List Symbol) (s : Symbol) → has xs s ≡ true → has (union xs ys) s ≡ true
union_left [] ys s h = absurd cc
union_left (x ∷ xs) ys s h = union_step x xs ys s (has ys x) refl (union_left xs ys s) h

pub union_none : (xs ys : List Symbol) (s : Symbol) → has (union xs ys) s ≡ false → (has xs s ≡ false) × (has ys s ≡ false)
union_none xs ys s e = (is_false (has xs s) (λ h. let k = union_left xs ys s h in cc), is_false (has ys s) (λ h. let k = union_right xs ys s h in cc))

-- ---- all values of the flags

gathered_one : (p : Bool → List Symbol) (y : Bool) (s : Symbol) → has (p y) s ≡ true → has (gather one_flag p) s ≡ true
gathered_one p false s h = union_left _ _ s h
gathered_one p true s h = union_right (p false) _ s h

gathered_two : (p : Bool × Bool → List Symbol) (y z : Bool) (s : Symbol) → has (p (y, z)) s ≡ true → has (gather two_flags p) s ≡ true
gathered_two p false z s h = union_left _ _ s (gathered_one (λ x. p (false, x)) z s h)
gathered_two p true z s h = union_right (gather one_flag (λ x. p (false, x))) _ s (gathered_one (λ x. p (true, x)) z s h)

pub gathered : {F : Type 0} (fl : Flags F) (p : F → List Symbol) (y : F) (s : Symbol) → has (p y) s ≡ true → has (gather fl p) s ≡ true
gathered no_flag p y s h = h
gathered one_flag p y s h = gathered_one p y s h
gathered two_flags p (y, z) s h = gathered_two p y z s h
gathered three_flags p (false, y, z) s h = union_left _ _ s (gathered_two (λ x. p (false, x.0, x.1)) y z s h)
gathered three_flags p (true, y, z) s h = union_right (gather two_flags (λ x. p (false, x.0, x.1))) _ s (gathered_two (λ x. p (true, x.0, x.1)) y z s h)

every_one : (p : Bool → Bool) (y : Bool) → every one_flag p ≡ true → p y ≡ true
every_one p false e = (and_true (p false) (p true) e).0
every_one p true e = (and_true (p false) (p true) e).1

every_two : (p : Bool × Bool → Bool) (y z : Bool) → every two_flags p ≡ true → p (y, z) ≡ true
every_two p false z e = every_one (λ x. p (false, x)) z (and_true (every one_flag (λ x. p (false, x))) _ e).0
every_two p true z e = every_one (λ x. p (true, x)) z (and_true (every one_flag (λ x. p (false, x))) _ e).1

pub every_at : {F : Type 0} (fl : Flags F) (p : F → Bool) (y : F) → every fl p ≡ true → p y ≡ true
every_at no_flag p y e = e
every_at one_flag p y e = every_one p y e
every_at two_flags p (y, z) e = every_two p y z e
every_at three_flags p (false, y, z) e = every_two (λ x. p (false, x.0, x.1)) y z (and_true (every two_flags (λ x. p (false, x.0, x.1))) _ e).0
every_at three_flags p (true, y, z) e = every_two (λ x. p (true, x.0, x.1)) y z (and_true (every two_flags (λ x. p (false, x.0, x.1))) _ e).1

-- what holds for each is said of all
pub all_hold : {F : Type 0} (fl : Flags F) (q : F → Bool) → ((y : F) → q y ≡ true) → every fl q ≡ true
all_hold no_flag q h = h (tt {0})
all_hold one_flag q h = rw (h false, h true) refl
all_hold two_flags q h = rw (h (false, false), h (false, true), h (true, false), h (true, true)) refl
all_hold three_flags q h = rw (h (false, false, false), h (false, false, true), h (false, true, false), h (false, true, true), h (true, false, false), h (true, false, true), h (true, true, false), h (true, true, true)) refl

pub gather_same : {F : Type 0} (fl : Flags F) (p q : F → List Symbol) → ((y : F) → p y ≡ q y) → gather fl p ≡ gather fl q
gather_same no_flag p q h = h (tt {0})
gather_same one_flag p q h = rw (h false, h true) refl
gather_same two_flags p q h = rw (h (false, false), h (false, true), h (true, false), h (true, true)) refl
gather_same three_flags p q h = rw (h (false, false, false), h (false, false, true), h (false, true, false), h (false, true, true), h (true, false, false), h (true, false, true), h (true, true, false), h (true, true, true)) refl

-- ---- the next token

abbrev pub ahead : List Tok → Option Tok
ahead [] = None
ahead (t ∷ ts) = Some t

abbrev at_of : List Symbol → Option Tok → Bool
at_of xs None = false
at_of xs (Some t) = has xs t.symbol

at_is : (xs : List Symbol) (ts : List Tok) → at xs ts ≡ at_of xs (ahead ts)
at_is xs [] = refl
at_is xs (t ∷ ts) = refl

pub at_ahead : (xs : List Symbol) (ts us : List Tok) → ahead ts ≡ ahead us → at xs ts ≡ at xs us
at_ahead xs ts us e = at_is xs ts ∙ ap (at_of xs) e ∙ sym (at_is xs us)

abbrev first_of_ahead : Option Tok → Tok
first_of_ahead None = first []
first_of_ahead (Some t) = t

first_is : (ts : List Tok) → first ts ≡ first_of_ahead (ahead ts)
first_is [] = refl
first_is (t ∷ ts) = refl

pub first_ahead : (ts us : List Tok) → ahead ts ≡ ahead us → first ts ≡ first us
first_ahead ts us e = first_is ts ∙ ap first_of_ahead e ∙ sym (first_is us)

abbrev fault_of : Option Tok → Fault
fault_of None = fault_at []
fault_of (Some t) = fault_at (t ∷ [])

fault_is : (ts : List Tok) → fault_at ts ≡ fault_of (ahead ts)
fault_is [] = refl
fault_is (t ∷ ts) = refl

pub fault_ahead : (ts us : List Tok) → ahead ts ≡ ahead us → fault_at ts ≡ fault_at us
fault_ahead ts us e = fault_is ts ∙ ap fault_of e ∙ sym (fault_is us)

pub ahead_append : (x ts us : List Tok) → ahead ts ≡ ahead us → ahead (x ++ ts) ≡ ahead (x ++ us)
ahead_append [] ts us e = e
ahead_append (t ∷ x) ts us e = refl

-- none of the symbols comes next
abbrev pub clear : List Symbol → List Tok → Bool
clear xs ts = not (at xs ts)

-- ---- lists of tokens

pub nil_append : (u v : List Tok) → [] ≡ u ++ v → (u ≡ []) × (v ≡ [])
nil_append [] v e = (refl, sym e)
nil_append (t ∷ u) v e = absurd cc

pub cons_parts : (t : Tok) (ts u v : List Tok) → t ∷ ts ≡ u ++ v → ((u ≡ []) × (v ≡ t ∷ ts)) ⊎ ((w : List Tok) × (u ≡ t ∷ w))
cons_parts t ts [] v e = inl (refl, sym e)
cons_parts t ts (x ∷ u) v e = inr (u, (let q : x ≡ t = cc in ap (λ (y : Tok). y ∷ u) q))

-- ---- steps that may fail

pub bind_ok : {A B : Type 0} (r : Result A Fault) (f : A → Result B Fault) (y : B) → (r >>= f) ≡ Ok y → (x : A) × (r ≡ Ok x) × (f x ≡ Ok y)
bind_ok (Ok x) f y e = (x, refl, e)
bind_ok (Err d) f y e = absurd cc

pub bind_err : {A B : Type 0} (r : Result A Fault) (f : A → Result B Fault) (d : Fault) → (r >>= f) ≡ Err d → (r ≡ Err d) ⊎ ((x : A) × (r ≡ Ok x) × (f x ≡ Err d))
bind_err (Ok x) f d e = inr (x, refl, e)
bind_err (Err c) f d e = inl cc

pub chosen : {A : Type 0} (b : Bool) (x y z : A) → cond b x y ≡ z → ((b ≡ true) × (x ≡ z)) ⊎ ((b ≡ false) × (y ≡ z))
chosen true x y z e = inl (refl, e)
chosen false x y z e = inr (refl, e)

abbrev good : {A : Type 0} → A → Result A Fault
good x = Ok x

pub ok_is : {A : Type 0} (x y : A) → good x ≡ good y → x ≡ y
ok_is x y e = cc

abbrev bad : {A : Type 0} → Fault → Result A Fault
bad x = Err x

pub err_is : {A : Type 0} (x y : Fault) → bad {A = A} x ≡ bad y → x ≡ y
err_is x y e = cc

pub never_both : {B : Type 0} (r : Result B Fault) (x : B) (e : Fault) → r ≡ Ok x → r ≡ Err e → ⊥
never_both r x e p q = absurd (let k = sym p ∙ q in cc)
