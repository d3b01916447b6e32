-- The blocks of a function: the number of each finds what the block takes.
use Rattle.std.proofs.Common.{◌≡◌, ℕ, suc, ◌≤◌, Bool, true, false, List, [], ◌∷◌, ◌++◌, ◌⊎◌, inl, inr, Option, Some, None, nat_eq, is_some, if◌then◌else◌, refl, sym, subst, arith}
use Rattle.std.specs.Str.{bytes_eq}
use Rattle.name_scopes.specs.Names.{Names, found, added}
use Rattle.ir_tree.specs.declared.code.Block.{Block}
use Rattle.ir_tree.specs.declared.items.Funcdef.{Funcdef}
use Rattle.check_tables.specs.declared.tables.Tables.{Tables}
use Rattle.checked_code.specs.declared.scopes.BlockEntry.{BlockEntry}
use Rattle.bundle_laws.specs.Typed.{BodyFits}
use Rattle.bundle_laws.specs.Lemmas.TypedOperands.{nat_eq_is}
use Rattle.checked_code.specs.Functions.{entry_of, entries_from, body_of}
use Rattle.bundle_laws.specs.Accepted.{blocks_from}

pub some_is : {T : Type 0} (x y : T) → Some x ≡ Some y → x ≡ y
some_is x y e = cc

if_some : {T : Type 0} (b : Bool) (x v : T) (r : Option T) → (if b then Some x else r) ≡ Some v → (v ≡ x) ⊎ (r ≡ Some v)
if_some true x v r h = inl (sym (some_is x v h))
if_some false x v r h = inr h

found_last : {T : Type 0} (es : Names T) (n name : List ℕ) (x v : T) → found (es ++ (n, x) ∷ []) name ≡ Some v → (v ≡ x) ⊎ (found es name ≡ Some v)
found_last [] n name x v h = if_some (bytes_eq name n) x v None h
found_last (e ∷ es) n name x v h = by (bytes_eq name e.0) h (found_last es n name x v)
  where
    by : (b : Bool) → (if b then Some e.1 else found (es ++ (n, x) ∷ []) name) ≡ Some v → (found (es ++ (n, x) ∷ []) name ≡ Some v → (v ≡ x) ⊎ (found es name ≡ Some v)) →
        (v ≡ x) ⊎ ((if b then Some e.1 else found es name) ≡ Some v)
    by true k ih = inr k
    by false k ih = ih k

-- what a name stands for is what was added, or what it stood for before
pub found_added : {T : Type 0} (es : Names T) (n name : List ℕ) (x v : T) → found (added es n x) name ≡ Some v → (v ≡ x) ⊎ (found es name ≡ Some v)
found_added es n name x v h = by (is_some (found es n)) h
  where
    by : (b : Bool) → found (if b then es else es ++ (n, x) ∷ []) name ≡ Some v → (v ≡ x) ⊎ (found es name ≡ Some v)
    by true k = inr k
    by false k = found_last es n name x v k

same_number : (n : ℕ) → nat_eq n n ≡ true
same_number n = grind (arith)

-- no block of a function has a number below that of its first
first_is_least : (p : Tables) (k : ℕ) (bs : List Block) (n : ℕ) (v : BlockEntry) → blocks_from p k bs n ≡ Some v → k ≤ n
first_is_least p k [] n v h = cc
first_is_least p k (b ∷ bs) n v h = by (nat_eq n k) refl h (first_is_least p (suc k) bs n v)
  where
    by : (t : Bool) → nat_eq n k ≡ t → (if t then Some (entry_of p k b) else blocks_from p (suc k) bs n) ≡ Some v → (blocks_from p (suc k) bs n ≡ Some v → suc k ≤ n) → k ≤ n
    by true e there more = let same : n ≡ k = nat_eq_is n k e in omega (arith, same)
    by false e there more = let behind : suc k ≤ n = more there in omega (arith, behind)

behind_first : (p : Tables) (k : ℕ) (b : Block) (bs : List Block) (n : ℕ) (v : BlockEntry) → blocks_from p (suc k) bs n ≡ Some v → blocks_from p k (b ∷ bs) n ≡ Some v
behind_first p k b bs n v h = by (nat_eq n k) refl
  where
    by : (t : Bool) → nat_eq n k ≡ t → (if t then Some (entry_of p k b) else blocks_from p (suc k) bs n) ≡ Some v
    by true e = let same : n ≡ k = nat_eq_is n k e in let more : suc k ≤ n = first_is_least p (suc k) bs n v h in absurd (omega (arith, same, more))
    by false e = h

at_first : (p : Tables) (k : ℕ) (b : Block) (bs : List Block) (v : BlockEntry) → v ≡ entry_of p k b → blocks_from p k (b ∷ bs) v.number ≡ Some v
at_first p k b bs v e = subst (λ (w : BlockEntry). blocks_from p k (b ∷ bs) w.number ≡ Some w) (sym e) (by (nat_eq k k) (same_number k))
  where
    by : (t : Bool) → t ≡ true → (if t then Some (entry_of p k b) else blocks_from p (suc k) bs k) ≡ Some (entry_of p k b)
    by true e = refl
    by false e = cc

entries_fit : (p : Tables) (es : Names BlockEntry) (k : ℕ) (bs : List Block) (name : List ℕ) (v : BlockEntry) → found (entries_from p es k bs) name ≡ Some v →
    (found es name ≡ Some v) ⊎ (blocks_from p k bs v.number ≡ Some v)
entries_fit p es k [] name v h = inl h
entries_fit p es k (b ∷ bs) name v h = elim (entries_fit p (added es b.head.name.text (entry_of p k b)) (suc k) bs name v h) [
  | inl here ↦ elim (found_added es b.head.name.text name (entry_of p k b) v here) [
    | inl same ↦ inr (at_first p k b bs v same)
    | inr old ↦ inl old
  ]
  | inr later ↦ inr (behind_first p k b bs v.number v later)
]

pub body_fits : (p : Tables) (first : ℕ) (d : Funcdef) → BodyFits (blocks_from p first d.blocks) (body_of p first d)
unfolding body_of
body_fits p first d = record {
  each = λ name v e. elim (entries_fit p [] first d.blocks name v e) [
    | inl none ↦ cc
    | inr there ↦ there
  ];
}
