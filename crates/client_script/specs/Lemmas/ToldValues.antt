-- In a bundle that meets its demands each name of a constant, a global or a function has a class and a value.
use Rattle.std.proofs.Common.{◌≡◌, ℕ, zero, suc, ◌+◌, ◌<◌, Bool, true, false, List, [], ◌∷◌, ◌++◌, length, Option, Some, None, is_some, slice_get, if◌then◌else◌, refl, sym, ◌∙◌, ap, subst, arith}
use Rattle.std.specs.Prelude.{nat_eq}
use Rattle.demands.specs.Demands.{first_unmet}
use Rattle.name_scopes.specs.Names.{found}
use Rattle.ir_tree.specs.declared.items.Item.{Item}
use Rattle.ir_tree.specs.declared.items.Item.TheVariants as items
use Rattle.mu_types.specs.Graph.{Table}
use Rattle.bundle_names.specs.declared.globals.Sort.{Sort}
use Rattle.bundle_names.specs.declared.globals.Sort.TheVariants as sorts
use Rattle.bundle_names.specs.declared.globals.Globals.{Globals}
use Rattle.bundle_names.specs.Globals.{with_item, with_items, no_globals, globals_of}
use Rattle.bundle_names.specs.Naming.{name_demands}
use Rattle.bundle_names.specs.Uses.{is_operand}
use Rattle.check_tables.specs.Lookups.{global_class, funcref_of, signature_in}
use Rattle.checked_code.specs.Graph.{table_of}
use Rattle.checked_code.specs.Entries.{tables_of, constant_entries, global_entries, function_entries, defined_signatures, is_function}
use Rattle.checked_code.specs.Checking.{check_demands, bundle_tables}
use Rattle.typed_heap.specs.Places.{with_some}
use Rattle.typed_heap.specs.Fits.{World}
use Rattle.mu_model.specs.Clients.{Classed}
use Rattle.mu_model.specs.Operands.{global_value}
use Rattle.bundle_facts.specs.Lemmas.Names.{IsLow, names_low, stands, added_own}
use Rattle.bundle_facts.specs.Lemmas.Functions.{are_linked}
use Rattle.bundle_facts.specs.Lemmas.Constants.{constant_fits}
use Rattle.client_script.specs.Laws.{ValuesAreTold}

there : {T : Type 0} (xs : List T) (n : ℕ) → n < length xs → (x : T) × (slice_get xs n ≡ Some x)
there [] n l = absurd (omega (arith, l))
there (x ∷ xs) zero l = (x, refl)
there (x ∷ xs) (suc n) l = there xs n (omega (arith, l))

-- ---- constants and globals are as many as their numbers

constants_counted : (t : Table) (g h : Globals) (is : List Item) → (with_items g is).counts.constants ≡ g.counts.constants + length (constant_entries t h is)
constants_counted t g h [] = omega arith
constants_counted t g h (items.Typedef d ∷ is) = constants_counted t (with_item g (items.Typedef d)) h is
constants_counted t g h (items.Funcsig d ∷ is) = constants_counted t (with_item g (items.Funcsig d)) h is
constants_counted t g h (items.Const d ∷ is) = omega (arith, constants_counted t (with_item g (items.Const d)) h is)
constants_counted t g h (items.GlobalCell d ∷ is) = constants_counted t (with_item g (items.GlobalCell d)) h is
constants_counted t g h (items.Funcdecl d ∷ is) = constants_counted t (with_item g (items.Funcdecl d)) h is
constants_counted t g h (items.Funcdef d ∷ is) = constants_counted t (with_item g (items.Funcdef d)) h is

cells_counted : (t : Table) (g h : Globals) (is : List Item) → (with_items g is).counts.global_cells ≡ g.counts.global_cells + length (global_entries t h is)
cells_counted t g h [] = omega arith
cells_counted t g h (items.Typedef d ∷ is) = cells_counted t (with_item g (items.Typedef d)) h is
cells_counted t g h (items.Funcsig d ∷ is) = cells_counted t (with_item g (items.Funcsig d)) h is
cells_counted t g h (items.Const d ∷ is) = cells_counted t (with_item g (items.Const d)) h is
cells_counted t g h (items.GlobalCell d ∷ is) = omega (arith, cells_counted t (with_item g (items.GlobalCell d)) h is)
cells_counted t g h (items.Funcdecl d ∷ is) = cells_counted t (with_item g (items.Funcdecl d)) h is
cells_counted t g h (items.Funcdef d ∷ is) = cells_counted t (with_item g (items.Funcdef d)) h is

-- ---- and so are functions, each where its name comes first

same_number : (k : ℕ) → nat_eq k k ≡ true
same_number k = grind arith

other_number : (n k : ℕ) → n < k → nat_eq n k ≡ false
other_number n k l = grind (arith, l)

-- a name that stood before is that of no new function
is_old : (g : Globals) (s : Sort) → IsLow g.counts s → is_function (Some s) g.counts.functions ≡ false
is_old g (sorts.Function n) low = other_number n g.counts.functions low
is_old g (sorts.Written n) low = refl
is_old g (sorts.Signature n) low = refl
is_old g (sorts.Constant n) low = refl
is_old g (sorts.GlobalCell n) low = refl

function_step : (k x total : ℕ) (entries : ℕ → List ℕ) (o final : Option Sort) → ((s : Sort) → o ≡ Some s → (final ≡ Some s) × (is_function (Some s) k ≡ false)) → (o ≡ None → final ≡ Some (sorts.Function k))
    → total ≡ (if is_some o then k else k + 1) + length (entries (if is_some o then k else k + 1)) → total ≡ k + length (if is_function final k then x ∷ entries (suc k) else entries k)
function_step k x total entries (Some s) final old new so =
    let p = old s refl in
    let off : is_function final k ≡ false = ap (λ (o : Option Sort). is_function o k) p.0 ∙ p.1 in
    rw off so
function_step k x total entries None final old new so =
    let on : is_function final k ≡ true = ap (λ (o : Option Sort). is_function o k) (new refl) ∙ same_number k in
    let z : k + 1 ≡ suc k = omega arith in
    let more : total ≡ suc k + length (entries (suc k)) = subst (λ (m : ℕ). total ≡ m + length (entries m)) z so in
    rw on (omega (arith, more))

Says : Globals → List ℕ → Globals → List Item → Type 0
Says h defined g is = h.counts.functions ≡ g.counts.functions + length (function_entries h defined g.counts.functions is)

one_more : (g : Globals) (xs : List Item) (i : Item) → with_items g (xs ++ i ∷ []) ≡ with_item (with_items g xs) i
one_more g [] i = refl
one_more g (x ∷ xs) i = one_more (with_item g x) xs i

functions_counted : (h : Globals) (defined : List ℕ) (before is : List Item) → with_items (globals_of before) is ≡ h → Says h defined (globals_of before) is
unfolding Says
functions_counted h defined before [] whole = let same : (globals_of before).counts.functions ≡ h.counts.functions = ap (λ (g : Globals). g.counts.functions) whole in omega (arith, same)
functions_counted h defined before (i ∷ is) whole = by i whole (subst (λ (g : Globals). Says h defined g is) (one_more no_globals before i) (functions_counted h defined (before ++ i ∷ []) is (ap (λ (g : Globals). with_items g is) (one_more no_globals before i) ∙ whole)))
  where
    old : (j : Item) (name : List ℕ) → with_items (with_item (globals_of before) j) is ≡ h → (s : Sort) → found (globals_of before).names name ≡ Some s → (found h.names name ≡ Some s) × (is_function (Some s) (globals_of before).counts.functions ≡ false)
    old j name w s e = (ap (λ (g : Globals). found g.names name) (sym w) ∙ stands (globals_of before) (j ∷ is) name s e, is_old (globals_of before) s ((names_low before).low name s e))

    by : (j : Item) → with_items (with_item (globals_of before) j) is ≡ h → Says h defined (with_item (globals_of before) j) is → Says h defined (globals_of before) (j ∷ is)
    by (items.Typedef d) w so = so
    by (items.Funcsig d) w so = so
    by (items.Const d) w so = so
    by (items.GlobalCell d) w so = so
    by (items.Funcdecl d) w so =
        function_step (globals_of before).counts.functions _ h.counts.functions (λ k. function_entries h defined k is) (found (globals_of before).names d.name.text) (found h.names d.name.text) (old (items.Funcdecl d) d.name.text w)
        (λ none. ap (λ (g : Globals). found g.names d.name.text) (sym w) ∙ stands (with_item (globals_of before) (items.Funcdecl d)) is d.name.text (sorts.Function (globals_of before).counts.functions) (added_own (globals_of before).names d.name.text (sorts.Function (globals_of before).counts.functions) (rw none refl))) so
    by (items.Funcdef d) w so =
        function_step (globals_of before).counts.functions _ h.counts.functions (λ k. function_entries h defined k is) (found (globals_of before).names d.name.text) (found h.names d.name.text) (old (items.Funcdef d) d.name.text w)
        (λ none. ap (λ (g : Globals). found g.names d.name.text) (sym w) ∙ stands (with_item (globals_of before) (items.Funcdef d)) is d.name.text (sorts.Function (globals_of before).counts.functions) (added_own (globals_of before).names d.name.text (sorts.Function (globals_of before).counts.functions) (rw none refl))) so

-- ---- each is told

empty : World
empty = record { objects = []; signatures = []; stacks = 0; threads = 0 }

abbrev told_of : List Item → Option Sort → Option Classed
told_of bundle o = with_some (global_class (bundle_tables bundle) o) (λ c. with_some (global_value bundle o) (λ v. Some (c, v)))

abbrev told_sort : List Item → Option Sort → Bool
told_sort bundle o = is_some (told_of bundle o)

told_by : (bundle : List Item) → first_unmet (name_demands bundle) ≡ None → first_unmet (check_demands bundle) ≡ None → (name : List ℕ) (o : Option Sort) → found (globals_of bundle).names name ≡ o → told_sort bundle o ≡ is_operand o
unfolding tables_of Says
told_by bundle named checked name None e = refl
told_by bundle named checked name (Some (sorts.Written n)) e = refl
told_by bundle named checked name (Some (sorts.Signature n)) e = refl
told_by bundle named checked name (Some (sorts.Constant n)) e =
    let g = globals_of bundle in
    let low : n < g.counts.constants = (names_low bundle).low name (sorts.Constant n) e in
    let many : g.counts.constants ≡ 0 + length (constant_entries (table_of g bundle) g bundle) = constants_counted (table_of g bundle) no_globals g bundle in
    let class = there (bundle_tables bundle).constants n (omega (arith, low, many)) in
    let value = constant_fits bundle n class.0 named checked class.1 empty in
    rw (class.1, value.1) refl
told_by bundle named checked name (Some (sorts.GlobalCell n)) e =
    let g = globals_of bundle in
    let low : n < g.counts.global_cells = (names_low bundle).low name (sorts.GlobalCell n) e in
    let many : g.counts.global_cells ≡ 0 + length (global_entries (table_of g bundle) g bundle) = cells_counted (table_of g bundle) no_globals g bundle in
    let class = there (bundle_tables bundle).global_cells n (omega (arith, low, many)) in
    rw class.1 refl
told_by bundle named checked name (Some (sorts.Function n)) e =
    let g = globals_of bundle in
    let low : n < g.counts.functions = (names_low bundle).low name (sorts.Function n) e in
    let many : g.counts.functions ≡ 0 + length (function_entries g (defined_signatures g bundle) 0 bundle) = functions_counted g (defined_signatures g bundle) [] bundle refl in
    let number = there (bundle_tables bundle).functions n (omega (arith, low, many)) in
    let signature = (are_linked bundle named checked).function n number.0 number.1 in
    let class : funcref_of (signature_in (bundle_tables bundle) (slice_get (bundle_tables bundle).functions n)) ≡ Some signature.0.funcref =
    ap (λ (o : Option ℕ). funcref_of (signature_in (bundle_tables bundle) o)) number.1 ∙ ap funcref_of signature.1 in
    rw class refl

pub values_are_told : ValuesAreTold
unfolding tables_of
values_are_told bundle named checked n = told_by bundle named checked n.text (found (globals_of bundle).names n.text) refl
