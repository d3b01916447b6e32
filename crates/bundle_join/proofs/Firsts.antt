-- Lemmas on the numbers of the first items.
use Rattle.std.specs.Prelude.{◌≡◌, ℕ, suc, Bool, true, false, List, [], ◌∷◌, ◌++◌, Option, Some, None, is_some, length, if◌then◌else◌, refl}
use Rattle.std.specs.Option.{option_map}
use Rattle.std.specs.Str.{bytes_eq}
use Rattle.std.specs.Cmp.Lexicographic.{bytes_decides}
use Rattle.std.proofs.Common.{sym, ◌∙◌, ap}
use Rattle.demands.specs.Demands.{or_else}
use Rattle.name_scopes.specs.Names.{Names, found, added}
use Rattle.name_scopes.specs.Numbered.{number_in}
use Rattle.ir_tree.specs.declared.items.Item.{Item}
use Rattle.bundle_join.specs.Firsts.{keyed, HasFirsts}

-- ---- one item more

number_step : (b c : Bool) (o o' : Option ℕ) (n : ℕ) → o' ≡ or_else o (if c then Some n else None) → (if b then Some 0 else option_map suc o') ≡ or_else (if b then Some 0 else option_map suc o) (if c then Some (suc n) else None)
number_step true c o o' n h = refl
number_step false true None o' n h = ap (option_map suc) h
number_step false false None o' n h = ap (option_map suc) h
number_step false c (Some i) o' n h = ap (option_map suc) h

number_last : (f : Item → List ℕ) (is : List Item) (i : Item) (key : List ℕ) → number_in (keyed f (is ++ i ∷ [])) key ≡ or_else (number_in (keyed f is) key) (if bytes_eq key (f i) then Some (length is) else None)
number_last f [] i key = refl
number_last f (j ∷ is) i key = number_step (bytes_eq key (f j)) (bytes_eq key (f i)) (number_in (keyed f is) key) (number_in (keyed f (is ++ i ∷ [])) key) (length is) (number_last f is i key)

-- ---- one name more

found_last : (es : Names ℕ) (key name : List ℕ) (n : ℕ) → found (es ++ (key, n) ∷ []) name ≡ or_else (found es name) (if bytes_eq name key then Some n else None)
found_last [] key name n = refl
found_last (e ∷ es) key name n =
    elim (bytes_eq name e.0) as (λ b. (if b then Some e.1 else found (es ++ (key, n) ∷ []) name) ≡ or_else (if b then Some e.1 else found es name) (if bytes_eq name key then Some n else None)) [
      | true ↦ refl
      | false ↦ found_last es key name n
    ]

or_none : (o : Option ℕ) → or_else o None ≡ o
or_none None = refl
or_none (Some i) = refl

-- a name that is there keeps its number
found_old : (es : Names ℕ) (key name : List ℕ) (n m : ℕ) (b : Bool) → bytes_eq name key ≡ b → found es key ≡ Some m → found es name ≡ or_else (found es name) (if b then Some n else None)
found_old es key name n m false e h = sym (or_none (found es name))
found_old es key name n m true e h =
    let there : found es name ≡ Some m = ap (found es) ((bytes_decides name key).0 e) ∙ h in
    there ∙ sym (ap (λ o. or_else o (Some n)) there)

found_added : (es : Names ℕ) (key name : List ℕ) (n : ℕ) → found (added es key n) name ≡ or_else (found es name) (if bytes_eq name key then Some n else None)
found_added es key name n = by (found es key) refl
  where
    by : (o : Option ℕ) → found es key ≡ o → found (if is_some o then es else es ++ (key, n) ∷ []) name ≡ or_else (found es name) (if bytes_eq name key then Some n else None)
    by None h = found_last es key name n
    by (Some m) h = found_old es key name n m (bytes_eq name key) refl h

-- ---- both

-- with one item more, whose key is defined as the next number
pub grown : (f : Item → List ℕ) (es es' : Names ℕ) (old new : List Item) (i : Item) (key : List ℕ) (n : ℕ) → HasFirsts f es old → es' ≡ added es key n → key ≡ f i → n ≡ length old → new ≡ old ++ i ∷ []
    → HasFirsts f es' new
grown f es es' old new i key n had defined same next is name =
    let last : List ℕ → ℕ → Option ℕ = λ k m. if bytes_eq name k then Some m else None in
    ap (λ (s : Names ℕ). found s name) defined ∙ found_added es key name n ∙ ap (λ o. or_else o (last key n)) (had name)
    ∙ ap (λ k. or_else (number_in (keyed f old) name) (last k n)) same ∙ ap (λ m. or_else (number_in (keyed f old) name) (last (f i) m)) next
    ∙ sym (number_last f old i name) ∙ ap (λ (xs : List Item). number_in (keyed f xs) name) (sym is)

-- and with none
pub none_first : (f : Item → List ℕ) (es : Names ℕ) (is : List Item) → es ≡ [] → is ≡ [] → HasFirsts f es is
none_first f es is e h name = ap (λ (s : Names ℕ). found s name) e ∙ sym (ap (λ (xs : List Item). number_in (keyed f xs) name) h)
