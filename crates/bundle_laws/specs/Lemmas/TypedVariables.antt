-- The variables behind an instruction: the number of each finds its class.
use Rattle.std.proofs.Common.{◌≡◌, ℕ, Bool, true, false, List, [], ◌∷◌, ◌++◌, ◌⊎◌, inl, inr, Option, Some, None, slice_get, length, is_some, if◌then◌else◌, refl, sym, ◌∙◌, arith, append_assoc, append-nil}
use Rattle.std.specs.Str.{bytes_eq}
use Rattle.name_scopes.specs.Names.{Names, found, added}
use Rattle.ir_lex.specs.declared.name.Name.{Name}
use Rattle.checked_code.specs.declared.scopes.Locals.{Locals}
use Rattle.checked_code.specs.Instructions.{no_locals, bound, bound_results}
use Rattle.bundle_laws.specs.Typed.{LocalsFit}

some_is : {T : Type 0} (x y : T) → Some x ≡ Some y → x ≡ y
some_is x y e = cc

if_some : {T : Type 0} (b : Bool) (x v : T) (r : Option T) → (if b then Some x else r) ≡ Some v → (v ≡ x) ⊎ (r ≡ Some v)
if_some true x v r h = inl (sym (some_is x v h))
if_some false x v r h = inr h

found_last : {T : Type 0} (es : Names T) (n name : List ℕ) (x v : T) → found (es ++ (n, x) ∷ []) name ≡ Some v → (v ≡ x) ⊎ (found es name ≡ Some v)
found_last [] n name x v h = if_some (bytes_eq name n) x v None h
found_last (e ∷ es) n name x v h = by (bytes_eq name e.0) h (found_last es n name x v)
  where
    by : (b : Bool) → (if b then Some e.1 else found (es ++ (n, x) ∷ []) name) ≡ Some v → (found (es ++ (n, x) ∷ []) name ≡ Some v → (v ≡ x) ⊎ (found es name ≡ Some v)) →
        (v ≡ x) ⊎ ((if b then Some e.1 else found es name) ≡ Some v)
    by true k ih = inr k
    by false k ih = ih k

-- what a name stands for is what was added, or what it stood for before
found_added : {T : Type 0} (es : Names T) (n name : List ℕ) (x v : T) → found (added es n x) name ≡ Some v → (v ≡ x) ⊎ (found es name ≡ Some v)
found_added es n name x v h = by (is_some (found es n)) h
  where
    by : (b : Bool) → found (if b then es else es ++ (n, x) ∷ []) name ≡ Some v → (v ≡ x) ⊎ (found es name ≡ Some v)
    by true k = inr k
    by false k = found_last es n name x v k

pub get_more : {T : Type 0} (xs ys : List T) (i : ℕ) (a : T) → slice_get xs i ≡ Some a → slice_get (xs ++ ys) i ≡ Some a
get_more [] ys i a h = cc
get_more (x ∷ xs) ys i a h = grind (arith, get_more xs ys)

pub get_last : {T : Type 0} (xs : List T) (a : T) → slice_get (xs ++ a ∷ []) (length xs) ≡ Some a
get_last [] a = refl
get_last (x ∷ xs) a = grind (arith, get_last xs a)

pub no_locals_fit : LocalsFit no_locals
no_locals_fit = record { each = λ name v e. cc }

pub bound_fits : (ls : Locals) (n : Name) (c : ℕ) → LocalsFit ls → LocalsFit (bound ls n c)
bound_fits ls n c fits = record {
  each = λ name v e. elim (found_added ls.names n.text name (record { number = length ls.classes; class = c }) v e) [
    | inl same ↦ rw same (get_last ls.classes c)
    | inr old ↦ get_more ls.classes (c ∷ []) v.number v.class (fits.each name v old)
  ];
}

pub results_fit : (ls : Locals) (ns : List Name) (cs : List ℕ) → LocalsFit ls → LocalsFit (bound_results ls ns cs)
results_fit ls [] cs fits = fits
results_fit ls (n ∷ ns) [] fits = fits
results_fit ls (n ∷ ns) (c ∷ cs) fits = results_fit (bound ls n c) ns cs (bound_fits ls n c fits)

-- as many results as classes: the variables behind them are those before them and the results
pub results_classes : (ls : Locals) (ns : List Name) (cs : List ℕ) → length ns ≡ length cs → (bound_results ls ns cs).classes ≡ ls.classes ++ cs
results_classes ls [] [] e = sym (append-nil ls.classes)
results_classes ls [] (c ∷ cs) e = absurd (omega (arith, e))
results_classes ls (n ∷ ns) [] e = absurd (omega (arith, e))
results_classes ls (n ∷ ns) (c ∷ cs) e = results_classes (bound ls n c) ns cs (omega (arith, e)) ∙ append_assoc ls.classes (c ∷ []) cs
