-- What is known of a name goes on to be known.
use Rattle.std.proofs.Common.{◌≡◌, ℕ, Bool, true, false, List, [], ◌∷◌, ◌++◌, Option, Some, None, length, slice_get, is_some, if◌then◌else◌, refl, sym, ◌∙◌, ap}
use Rattle.std.proofs.lemmas.Slice.Eq.{bytes_eq-Decides}
use Rattle.std.specs.Str.{bytes_eq}
use Rattle.demands.specs.Demands.{or_else}
use Rattle.name_scopes.specs.Names.{Names, found, added}
use Rattle.ir_lex.specs.declared.name.Name.{Name}
use Rattle.ir_tree.specs.declared.code.Inst.{Inst}
use Rattle.check_tables.specs.declared.tables.Tables.{Tables}
use Rattle.checked_code.specs.declared.scopes.Variable.{Variable}
use Rattle.checked_code.specs.declared.scopes.Locals.{Locals}
use Rattle.checked_code.specs.Instructions.{bound, bound_results, after, after_all, gives}
use Rattle.bundle_laws.specs.Lemmas.TypedVariables.{get_more}

-- ---- options

pub or_none : {T : Type 0} (o : Option T) → or_else o None ≡ o
or_none None = refl
or_none (Some x) = refl

pub or_assoc : {T : Type 0} (a b c : Option T) → or_else (or_else a b) c ≡ or_else a (or_else b c)
or_assoc None b c = refl
or_assoc (Some x) b c = refl

pub some_is : {T : Type 0} (x y : T) → Some x ≡ Some y → x ≡ y
some_is x y e = cc

-- ---- one more name

found_last : {T : Type 0} (es : Names T) (n name : List ℕ) (x : T) → found (es ++ (n, x) ∷ []) name ≡ or_else (found es name) (if bytes_eq name n then Some x else None)
found_last [] n name x = refl
found_last (e ∷ es) n name x =
    elim (bytes_eq name e.0) as (λ b. (if b then Some e.1 else found (es ++ (n, x) ∷ []) name) ≡ or_else (if b then Some e.1 else found es name) (if bytes_eq name n then Some x else None)) [
      | true ↦ refl
      | false ↦ found_last es n name x
    ]

-- a name that is there stands for what it stood for
found_old : {T : Type 0} (es : Names T) (n name : List ℕ) (x w : T) (b : Bool) → bytes_eq name n ≡ b → found es n ≡ Some w → found es name ≡ or_else (found es name) (if b then Some x else None)
found_old es n name x w false e h = sym (or_none (found es name))
found_old es n name x w true e h =
    let same : name ≡ n = (bytes_eq-Decides name n).0 e in
    let there : found es name ≡ Some w = ap (found es) same ∙ h in
    there ∙ sym (ap (λ o. or_else o (Some x)) there)

pub found_added : {T : Type 0} (es : Names T) (n name : List ℕ) (x : T) → found (added es n x) name ≡ or_else (found es name) (if bytes_eq name n then Some x else None)
found_added {T} es n name x = by (found es n) refl
  where
    by : (o : Option T) → found es n ≡ o → found (if is_some o then es else es ++ (n, x) ∷ []) name ≡ or_else (found es name) (if bytes_eq name n then Some x else None)
    by None e = found_last es n name x
    by (Some w) e = found_old es n name x w (bytes_eq name n) refl e

-- what a name stands for goes on to stand
pub stays : {T : Type 0} (es : Names T) (n name : List ℕ) (x v : T) → found es name ≡ Some v → found (added es n x) name ≡ Some v
stays es n name x v h = found_added es n name x ∙ ap (λ o. or_else o (if bytes_eq name n then Some x else None)) h

-- ---- variables

-- the variables go on to be among later ones
pub record Stay (ls later : Locals) : Type 0 where
  pub names : (name : List ℕ) (v : Variable) → found ls.names name ≡ Some v → found later.names name ≡ Some v
  pub classes : (n c : ℕ) → slice_get ls.classes n ≡ Some c → slice_get later.classes n ≡ Some c

results_stay : (ls : Locals) (ns : List Name) (cs : List ℕ) → Stay ls (bound_results ls ns cs)
results_stay ls [] cs = record { names = λ name v e. e; classes = λ n c e. e }
results_stay ls (n ∷ ns) [] = record { names = λ name v e. e; classes = λ n c e. e }
results_stay ls (n ∷ ns) (c ∷ cs) =
    let more : Stay (bound ls n c) (bound_results (bound ls n c) ns cs) = results_stay (bound ls n c) ns cs in
    record {
      names = λ name v e. more.names name v (stays ls.names n.text name (record { number = length ls.classes; class = c }) v e);
      classes = λ k d e. more.classes k d (get_more ls.classes (c ∷ []) k d e);
    }

pub all_stay : (p : Tables) (ls : Locals) (is : List Inst) → Stay ls (after_all p ls is)
all_stay p ls [] = record { names = λ name v e. e; classes = λ n c e. e }
all_stay p ls (i ∷ is) =
    let one : Stay ls (after p ls i) = results_stay ls i.results (gives p i.op) in
    let more : Stay (after p ls i) (after_all p (after p ls i) is) = all_stay p (after p ls i) is in
    record {
      names = λ name v e. more.names name v (one.names name v e);
      classes = λ n c e. more.classes n c (one.classes n c e);
    }
