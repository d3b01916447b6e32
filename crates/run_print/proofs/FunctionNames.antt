-- A function has one name: by the items of the bundle as they are written, and by its number.
use Rattle.std.proofs.Common.{◌≡◌, ℕ, zero, suc, ◌+◌, ◌<◌, ◌≤◌, Bool, true, false, List, [], ◌∷◌, ◌++◌, inl, inr, Option, Some, None, length, slice_get, nat_eq, is_some, if◌then◌else◌, refl, sym, ◌∙◌, ap, subst, arith}
use Rattle.std.specs.Str.{bytes_eq}
use Rattle.std.proofs.lemmas.Slice.Eq.{bytes_eq-Decides}
use Rattle.name_scopes.specs.Names.{Names, found, added}
use Rattle.ir_lex.specs.declared.name.Name.{Name}
use Rattle.ir_tree.specs.declared.items.Item.{Item}
use Rattle.ir_tree.specs.declared.items.Item.TheVariants as items
use Rattle.bundle_names.specs.declared.globals.Sort.{Sort}
use Rattle.bundle_names.specs.declared.globals.Sort.TheVariants as sorts
use Rattle.bundle_names.specs.declared.globals.Globals.{Globals}
use Rattle.bundle_names.specs.Globals.{with_item, with_items, no_globals, globals_of}
use Rattle.check_tables.specs.declared.tables.Tables.{Tables}
use Rattle.bundle_laws.specs.Lemmas.Bodies.{found_added}
use Rattle.checked_code.specs.Entries.{is_function, tables_of}
use Rattle.checked_code.specs.declared.blocks.Function.{Function}
use Rattle.checked_code.specs.Functions.{first_blocks, function_named, functions_behind, functions_from}
use Rattle.checked_code.specs.Checking.{bundle_tables, bundle_functions}
use Rattle.checked_code.specs.Answers.{item_name, name_of_function_at, function_name}
use Rattle.run_texts.specs.EventTexts.{function_text}
use Rattle.run_print.proofs.BlockNames.{StandBehind, all_stand, next, here, none_behind}

-- ---- numbers

equal_numbers : (m n : ℕ) → m ≡ n → nat_eq m n ≡ true
equal_numbers m n e = grind (arith)

other_numbers : (m n : ℕ) → m < n → nat_eq m n ≡ false
other_numbers m n e = grind (arith)

-- ---- one more name

found_front : {T : Type 0} (es fs : Names T) (name : List ℕ) (v : T) → found es name ≡ Some v → found (es ++ fs) name ≡ Some v
found_front [] fs name v h = cc
found_front (e ∷ es) fs name v h = by (bytes_eq name e.0) h (found_front es fs name v)
  where
    by : (b : Bool) → (if b then Some e.1 else found es name) ≡ Some v → (found es name ≡ Some v → found (es ++ fs) name ≡ Some v) → (if b then Some e.1 else found (es ++ fs) name) ≡ Some v
    by true k ih = k
    by false k ih = ih k

-- what a name stands for goes on to stand
stays : {T : Type 0} (es : Names T) (n name : List ℕ) (x v : T) → found es name ≡ Some v → found (added es n x) name ≡ Some v
stays es n name x v h = by (is_some (found es n))
  where
    by : (b : Bool) → found (if b then es else es ++ (n, x) ∷ []) name ≡ Some v
    by true = h
    by false = found_front es ((n, x) ∷ []) name v h

found_last : {T : Type 0} (es : Names T) (name : List ℕ) (x : T) → found es name ≡ None → found (es ++ (name, x) ∷ []) name ≡ Some x
found_last [] name x h = ap (λ (b : Bool). if b then Some x else None) ((bytes_eq-Decides name name).1 refl)
found_last (e ∷ es) name x h = by (bytes_eq name e.0) h (found_last es name x)
  where
    by : (b : Bool) → (if b then Some e.1 else found es name) ≡ None → (found es name ≡ None → found (es ++ (name, x) ∷ []) name ≡ Some x) → (if b then Some e.1 else found (es ++ (name, x) ∷ []) name) ≡ Some x
    by true k ih = cc
    by false k ih = ih k

-- a new name stands for what is added
is_new : {T : Type 0} (es : Names T) (name : List ℕ) (x : T) → found es name ≡ None → found (added es name x) name ≡ Some x
is_new es name x h = ap (λ (o : Option _). found (if is_some o then es else es ++ (name, x) ∷ []) name) h ∙ found_last es name x h

item_stands : (g : Globals) (i : Item) (a : List ℕ) (v : Sort) → found g.names a ≡ Some v → found (with_item g i).names a ≡ Some v
item_stands g (items.Typedef d) a v h = stays g.names d.name.text a (sorts.Written g.counts.written) v h
item_stands g (items.Funcsig d) a v h = stays g.names d.name.text a (sorts.Signature g.counts.signatures) v h
item_stands g (items.Const d) a v h = stays g.names d.name.text a (sorts.Constant g.counts.constants) v h
item_stands g (items.GlobalCell d) a v h = stays g.names d.name.text a (sorts.GlobalCell g.counts.global_cells) v h
item_stands g (items.Funcdecl d) a v h = stays g.names d.name.text a (sorts.Function g.counts.functions) v h
item_stands g (items.Funcdef d) a v h = stays g.names d.name.text a (sorts.Function g.counts.functions) v h

stands : (g : Globals) (is : List Item) (a : List ℕ) (v : Sort) → found g.names a ≡ Some v → found (with_items g is).names a ≡ Some v
stands g [] a v h = h
stands g (i ∷ is) a v h = stands (with_item g i) is a v (item_stands g i a v h)

-- ---- the numbers of functions are below their count

AreBelow : Names Sort → ℕ → Type 0
AreBelow es k = (a : List ℕ) (n : ℕ) → found es a ≡ Some (sorts.Function n) → n < k

same_function : (m n : ℕ) → sorts.Function m ≡ sorts.Function n → m ≡ n
same_function m n e = cc

function_below : (es : Names Sort) (nm : List ℕ) (k : ℕ) → AreBelow es k → AreBelow (added es nm (sorts.Function k)) (if is_some (found es nm) then k else k + 1)
unfolding AreBelow
function_below es nm k below = by (is_some (found es nm)) refl
  where
    by : (b : Bool) → is_some (found es nm) ≡ b → (a : List ℕ) (n : ℕ) → found (if b then es else es ++ (nm, sorts.Function k) ∷ []) a ≡ Some (sorts.Function n) → n < (if b then k else k + 1)
    by true e a n h = below a n h
    by false e a n h =
        let there : found (added es nm (sorts.Function k)) a ≡ Some (sorts.Function n) = ap (λ (b : Bool). found (if b then es else es ++ (nm, sorts.Function k) ∷ []) a) e ∙ h in
        elim (found_added es nm a (sorts.Function k) (sorts.Function n) there) [
          | inl new ↦ let same : n ≡ k = same_function n k new in omega (arith, same)
          | inr old ↦ let less : n < k = below a n old in omega (arith, less)
        ]

other_below : (es : Names Sort) (nm : List ℕ) (x : Sort) (k : ℕ) → ((n : ℕ) → sorts.Function n ≡ x → ⊥) → AreBelow es k → AreBelow (added es nm x) k
unfolding AreBelow
other_below es nm x k other below a n h = elim (found_added es nm a x (sorts.Function n) h) [
  | inl new ↦ absurd (other n new)
  | inr old ↦ below a n old
]

item_below : (g : Globals) (i : Item) → AreBelow g.names g.counts.functions → AreBelow (with_item g i).names (with_item g i).counts.functions
item_below g (items.Typedef d) below = other_below g.names d.name.text (sorts.Written g.counts.written) g.counts.functions (λ n e. cc) below
item_below g (items.Funcsig d) below = other_below g.names d.name.text (sorts.Signature g.counts.signatures) g.counts.functions (λ n e. cc) below
item_below g (items.Const d) below = other_below g.names d.name.text (sorts.Constant g.counts.constants) g.counts.functions (λ n e. cc) below
item_below g (items.GlobalCell d) below = other_below g.names d.name.text (sorts.GlobalCell g.counts.global_cells) g.counts.functions (λ n e. cc) below
item_below g (items.Funcdecl d) below = function_below g.names d.name.text g.counts.functions below
item_below g (items.Funcdef d) below = function_below g.names d.name.text g.counts.functions below

-- a name that stood before is that of no function from there on
is_before : (s : Sort) (k m : ℕ) → ((n : ℕ) → s ≡ sorts.Function n → n < k) → k ≤ m → is_function (Some s) m ≡ false
is_before (sorts.Function n) k m below e = let less : n < k = below n refl in other_numbers n m (omega (arith, less, e))
is_before (sorts.Written n) k m below e = refl
is_before (sorts.Signature n) k m below e = refl
is_before (sorts.Constant n) k m below e = refl
is_before (sorts.GlobalCell n) k m below e = refl

-- ---- one name, and those behind it

-- The name of an item behind which k functions stand. `old` is what it stood for before, and `whole` what it stands for in the bundle.
module _ (bundle : List Item) (p : Tables) (firsts : List ℕ) (k item : ℕ) (nm : Name) (texts : ℕ → List ℕ) (more : ℕ → List Function) where
  Goal : Option Sort → Option Sort → ℕ → Type 0
  Goal whole other j =
      (if is_function whole (k + j) then nm.text else texts (k + j))
      ≡ name_of_function_at bundle (slice_get (functions_behind more k (if is_function other k then Some (function_named p firsts k item nm) else None)) j)

  Later : ℕ → Type 0
  Later m = (j : ℕ) → texts (m + j) ≡ name_of_function_at bundle (slice_get (more m) j)

  known : (s : Sort) (j : ℕ) → ((n : ℕ) → s ≡ sorts.Function n → n < k) → Later k → Goal (Some s) (Some s) j
  unfolding Goal Later
  known s j below later =
      ap (λ (b : Bool). if b then nm.text else texts (k + j)) (is_before s k (k + j) below (omega arith))
      ∙ later j
      ∙ sym (ap (λ (b : Bool). name_of_function_at bundle (slice_get (functions_behind more k (if b then Some (function_named p firsts k item nm) else None)) j)) (is_before s k k below (omega arith)))

  named_here : (j : ℕ) → item_name (slice_get bundle item) ≡ nm.text → Later (suc k) →
      (if nat_eq k (k + j) then nm.text else texts (k + j)) ≡ name_of_function_at bundle (slice_get (function_named p firsts k item nm ∷ more (suc k)) j)
  unfolding Later
  named_here zero is later = ap (λ (b : Bool). if b then nm.text else texts (k + 0)) (equal_numbers k (k + 0) (omega arith)) ∙ sym is
  named_here (suc j) is later =
      let e : k + suc j ≡ suc k + j = omega arith in
      ap (λ (b : Bool). if b then nm.text else texts (k + suc j)) (other_numbers k (k + suc j) (omega arith))
      ∙ ap texts e
      ∙ later j

  new : (j : ℕ) → item_name (slice_get bundle item) ≡ nm.text → Later (suc k) → Goal (Some (sorts.Function k)) (Some (sorts.Function k)) j
  unfolding Goal
  new j is later =
      named_here j is later
      ∙ sym (ap (λ (b : Bool). name_of_function_at bundle (slice_get (functions_behind more k (if b then Some (function_named p firsts k item nm) else None)) j)) (equal_numbers k k refl))

  either : (es : Names Sort) (j : ℕ) (old whole other : Option Sort) → found es nm.text ≡ old → AreBelow es k → item_name (slice_get bundle item) ≡ nm.text →
      ((v : Sort) → found (added es nm.text (sorts.Function k)) nm.text ≡ Some v → (whole ≡ Some v) × (other ≡ Some v)) →
      Later (if is_some old then k else k + 1) → Goal whole other j
  unfolding AreBelow
  either es j (Some s) whole other e below is final later =
      let both : (whole ≡ Some s) × (other ≡ Some s) = final s (stays es nm.text nm.text (sorts.Function k) s e) in
      rw (both.0, both.1) (known s j (λ n f. below nm.text n (e ∙ ap (λ (x : Sort). Some x) f)) later)
  either es j None whole other e below is final later =
      let both : (whole ≡ Some (sorts.Function k)) × (other ≡ Some (sorts.Function k)) = final (sorts.Function k) (is_new es nm.text (sorts.Function k) e) in
      let z : k + 1 ≡ suc k = omega arith in
      rw (both.0, both.1) (new j is (subst Later z later))

-- ---- all names

item_named : (bundle : List Item) (item : ℕ) (i : Item) (nm : Name) → slice_get bundle item ≡ Some i → item_name (Some i) ≡ nm.text → item_name (slice_get bundle item) ≡ nm.text
item_named bundle item i nm e is = ap item_name e ∙ is

final_is : (bundle : List Item) (p : Tables) (g : Globals) (is : List Item) (name : List ℕ) (v : Sort) → p.globals ≡ globals_of bundle → with_items g is ≡ globals_of bundle →
    found g.names name ≡ Some v → (found (globals_of bundle).names name ≡ Some v) × (found p.globals.names name ≡ Some v)
final_is bundle p g is name v e whole h =
    let there : found (globals_of bundle).names name ≡ Some v = ap (λ (x : Globals). found x.names name) (sym whole) ∙ stands g is name v h in
    (there, ap (λ (x : Globals). found x.names name) e ∙ there)

names_from : (bundle : List Item) (p : Tables) (firsts : List ℕ) (g : Globals) (item : ℕ) (is : List Item) → p.globals ≡ globals_of bundle → with_items g is ≡ globals_of bundle →
    AreBelow g.names g.counts.functions → StandBehind bundle item is → (j : ℕ) →
    function_text bundle is (g.counts.functions + j) ≡ name_of_function_at bundle (slice_get (functions_from p firsts g.counts.functions item is) j)
unfolding Goal Later
names_from bundle p firsts g item [] e whole below stand j = refl
names_from bundle p firsts g item (items.Typedef d ∷ is) e whole below stand j =
    names_from bundle p firsts (with_item g (items.Typedef d)) (suc item) is e whole (item_below g (items.Typedef d) below) (next bundle item (items.Typedef d) is stand) j
names_from bundle p firsts g item (items.Funcsig d ∷ is) e whole below stand j =
    names_from bundle p firsts (with_item g (items.Funcsig d)) (suc item) is e whole (item_below g (items.Funcsig d) below) (next bundle item (items.Funcsig d) is stand) j
names_from bundle p firsts g item (items.Const d ∷ is) e whole below stand j =
    names_from bundle p firsts (with_item g (items.Const d)) (suc item) is e whole (item_below g (items.Const d) below) (next bundle item (items.Const d) is stand) j
names_from bundle p firsts g item (items.GlobalCell d ∷ is) e whole below stand j =
    names_from bundle p firsts (with_item g (items.GlobalCell d)) (suc item) is e whole (item_below g (items.GlobalCell d) below) (next bundle item (items.GlobalCell d) is stand) j
names_from bundle p firsts g item (items.Funcdecl d ∷ is) e whole below stand j =
    either bundle p firsts g.counts.functions item d.name (λ n. function_text bundle is n) (λ n. functions_from p firsts n (suc item) is) g.names j
    (found g.names d.name.text) (found (globals_of bundle).names d.name.text) (found p.globals.names d.name.text) refl below
    (item_named bundle item (items.Funcdecl d) d.name (here bundle item (items.Funcdecl d) is stand) refl)
    (λ v h. final_is bundle p (with_item g (items.Funcdecl d)) is d.name.text v e whole h)
    (names_from bundle p firsts (with_item g (items.Funcdecl d)) (suc item) is e whole (item_below g (items.Funcdecl d) below) (next bundle item (items.Funcdecl d) is stand))
names_from bundle p firsts g item (items.Funcdef d ∷ is) e whole below stand j =
    either bundle p firsts g.counts.functions item d.name (λ n. function_text bundle is n) (λ n. functions_from p firsts n (suc item) is) g.names j
    (found g.names d.name.text) (found (globals_of bundle).names d.name.text) (found p.globals.names d.name.text) refl below
    (item_named bundle item (items.Funcdef d) d.name (here bundle item (items.Funcdef d) is stand) refl)
    (λ v h. final_is bundle p (with_item g (items.Funcdef d)) is d.name.text v e whole h)
    (names_from bundle p firsts (with_item g (items.Funcdef d)) (suc item) is e whole (item_below g (items.Funcdef d) below) (next bundle item (items.Funcdef d) is stand))

none_below : AreBelow [] 0
unfolding AreBelow
none_below a n h = cc

-- ---- by number

pub function_named_same : (bundle : List Item) (n : ℕ) → function_text bundle bundle n ≡ function_name bundle n
unfolding tables_of
function_named_same bundle n =
    let z : n ≡ 0 + n = omega arith in
    ap (function_text bundle bundle) z
    ∙ names_from bundle (bundle_tables bundle) (first_blocks 0 bundle) no_globals 0 bundle refl refl none_below (all_stand bundle) n

-- a function that is not there has none
pub no_function_named : (bundle : List Item) (n : ℕ) → length (bundle_functions bundle) ≤ n → function_text bundle bundle n ≡ []
no_function_named bundle n e = function_named_same bundle n ∙ ap (name_of_function_at bundle) (none_behind (bundle_functions bundle) n e)
