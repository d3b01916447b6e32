-- A joined bundle meets the demands on signatures, globals and functions.
use Rattle.std.proofs.Common.{◌≡◌, ℕ, ◌+◌, ◌≤◌, true, List, [], ◌∷◌, length, inl, inr, refl, sym, subst, arith}
use Rattle.ir_lex.specs.declared.name.Name.{Name}
use Rattle.ir_tree.specs.declared.definitions.Funcsig.{Funcsig}
use Rattle.ir_tree.specs.declared.definitions.GlobalCell.{GlobalCell}
use Rattle.ir_tree.specs.declared.items.Funcdef.{Funcdef}
use Rattle.ir_tree.specs.declared.items.Item.{Item}
use Rattle.ir_tree.specs.declared.items.Item.TheVariants as items
use Rattle.check_tables.specs.declared.tables.Tables.{Tables}
use Rattle.demands.specs.Demands.{AllMet}
use Rattle.check_tables.specs.TypeTests.{is_sized}
use Rattle.check_tables.specs.Lookups.{definition_named, leaves_named}
use Rattle.checked_code.specs.Rules.{signature_type_demands, signatures_demands, globals_demands}
use Rattle.checked_code.specs.Functions.{function_demands, functions_demands}
pub use Rattle.join_laws.specs.Laws.{leaves_of_globals}
use Rattle.join_laws.proofs.Members.{Member}
use Rattle.join_laws.proofs.Lookups.{TablesGo, value_test}

-- ---- functions

pub function_of : (p : Tables) (first : ℕ) (is : List Item) (d : Funcdef) → AllMet (functions_demands p first is) → Member (items.Funcdef d) is → (k : ℕ) × AllMet (function_demands p k d)
function_of p first [] d m e = absurd e
function_of p first (items.Funcdef c ∷ is) d m (inl e) = (first, subst (λ (x : Funcdef). AllMet (function_demands p first x)) (one c d (sym e)) m.0)
  where
    one : (c d : Funcdef) → items.Funcdef c ≡ items.Funcdef d → c ≡ d
    one c d e = cc
function_of p first (items.Funcdef c ∷ is) d m (inr e) = function_of p (first + length c.blocks) is d m.1 e
function_of p first (items.Typedef c ∷ is) d m (inl e) = cc
function_of p first (items.Typedef c ∷ is) d m (inr e) = function_of p first is d m e
function_of p first (items.Funcsig c ∷ is) d m (inl e) = cc
function_of p first (items.Funcsig c ∷ is) d m (inr e) = function_of p first is d m e
function_of p first (items.Const c ∷ is) d m (inl e) = cc
function_of p first (items.Const c ∷ is) d m (inr e) = function_of p first is d m e
function_of p first (items.GlobalCell c ∷ is) d m (inl e) = cc
function_of p first (items.GlobalCell c ∷ is) d m (inr e) = function_of p first is d m e
function_of p first (items.Funcdecl c ∷ is) d m (inl e) = cc
function_of p first (items.Funcdecl c ∷ is) d m (inr e) = function_of p first is d m e

pub functions_all : (q : Tables) (first : ℕ) (is : List Item) → ((d : Funcdef) (k : ℕ) → Member (items.Funcdef d) is → AllMet (function_demands q k d)) → AllMet (functions_demands q first is)
functions_all q first [] f = tt
functions_all q first (items.Funcdef d ∷ is) f = (f d first (inl refl), functions_all q (first + length d.blocks) is (λ c k m. f c k (inr m)))
functions_all q first (items.Typedef d ∷ is) f = functions_all q first is (λ c k m. f c k (inr m))
functions_all q first (items.Funcsig d ∷ is) f = functions_all q first is (λ c k m. f c k (inr m))
functions_all q first (items.Const d ∷ is) f = functions_all q first is (λ c k m. f c k (inr m))
functions_all q first (items.GlobalCell d ∷ is) f = functions_all q first is (λ c k m. f c k (inr m))
functions_all q first (items.Funcdecl d ∷ is) f = functions_all q first is (λ c k m. f c k (inr m))

-- ---- signatures

signature_types_go : (p q : Tables) → TablesGo p q → (ns : List Name) → AllMet (signature_type_demands p ns) → AllMet (signature_type_demands q ns)
signature_types_go p q go [] m = tt
signature_types_go p q go (n ∷ ns) m = (value_test p q go n m.0, signature_types_go p q go ns m.1)

abbrev pub SignatureMet : Tables → Funcsig → Type 0
SignatureMet p d = AllMet (signature_type_demands p d.takes) × AllMet (signature_type_demands p d.gives)

pub signature_met_goes : (p q : Tables) (d : Funcsig) → TablesGo p q → SignatureMet p d → SignatureMet q d
signature_met_goes p q d go m = (signature_types_go p q go d.takes m.0, signature_types_go p q go d.gives m.1)

funcsig_one : (c d : Funcsig) → items.Funcsig d ≡ items.Funcsig c → c ≡ d
funcsig_one c d e = cc

pub signature_met_of : (p : Tables) (is : List Item) (d : Funcsig) → AllMet (signatures_demands p is) → Member (items.Funcsig d) is → SignatureMet p d
signature_met_of p [] d m e = absurd e
signature_met_of p (items.Funcsig c ∷ is) d m (inl e) = subst (λ (x : Funcsig). SignatureMet p x) (funcsig_one c d e) m.0
signature_met_of p (items.Funcsig c ∷ is) d m (inr e) = signature_met_of p is d m.1 e
signature_met_of p (items.Typedef c ∷ is) d m (inl e) = cc
signature_met_of p (items.Typedef c ∷ is) d m (inr e) = signature_met_of p is d m e
signature_met_of p (items.Const c ∷ is) d m (inl e) = cc
signature_met_of p (items.Const c ∷ is) d m (inr e) = signature_met_of p is d m e
signature_met_of p (items.GlobalCell c ∷ is) d m (inl e) = cc
signature_met_of p (items.GlobalCell c ∷ is) d m (inr e) = signature_met_of p is d m e
signature_met_of p (items.Funcdecl c ∷ is) d m (inl e) = cc
signature_met_of p (items.Funcdecl c ∷ is) d m (inr e) = signature_met_of p is d m e
signature_met_of p (items.Funcdef c ∷ is) d m (inl e) = cc
signature_met_of p (items.Funcdef c ∷ is) d m (inr e) = signature_met_of p is d m e

pub signatures_all : (q : Tables) (is : List Item) → ((d : Funcsig) → Member (items.Funcsig d) is → SignatureMet q d) → AllMet (signatures_demands q is)
signatures_all q [] f = tt
signatures_all q (items.Funcsig d ∷ is) f = (f d (inl refl), signatures_all q is (λ c m. f c (inr m)))
signatures_all q (items.Typedef d ∷ is) f = signatures_all q is (λ c m. f c (inr m))
signatures_all q (items.Const d ∷ is) f = signatures_all q is (λ c m. f c (inr m))
signatures_all q (items.GlobalCell d ∷ is) f = signatures_all q is (λ c m. f c (inr m))
signatures_all q (items.Funcdecl d ∷ is) f = signatures_all q is (λ c m. f c (inr m))
signatures_all q (items.Funcdef d ∷ is) f = signatures_all q is (λ c m. f c (inr m))

-- ---- globals

cell_one : (c d : GlobalCell) → items.GlobalCell d ≡ items.GlobalCell c → c ≡ d
cell_one c d e = cc

pub global_of : (p : Tables) (leaves : ℕ) (is : List Item) (d : GlobalCell) → AllMet (globals_demands p leaves is) → Member (items.GlobalCell d) is → is_sized (definition_named p d.of_type) ≡ true
global_of p leaves [] d m e = absurd e
global_of p leaves (items.GlobalCell c ∷ is) d m (inl e) = subst (λ (x : GlobalCell). is_sized (definition_named p x.of_type) ≡ true) (cell_one c d e) m.0.0
global_of p leaves (items.GlobalCell c ∷ is) d m (inr e) = global_of p (leaves + length (leaves_named p c.of_type)) is d m.1 e
global_of p leaves (items.Typedef c ∷ is) d m (inl e) = cc
global_of p leaves (items.Typedef c ∷ is) d m (inr e) = global_of p leaves is d m e
global_of p leaves (items.Funcsig c ∷ is) d m (inl e) = cc
global_of p leaves (items.Funcsig c ∷ is) d m (inr e) = global_of p leaves is d m e
global_of p leaves (items.Const c ∷ is) d m (inl e) = cc
global_of p leaves (items.Const c ∷ is) d m (inr e) = global_of p leaves is d m e
global_of p leaves (items.Funcdecl c ∷ is) d m (inl e) = cc
global_of p leaves (items.Funcdecl c ∷ is) d m (inr e) = global_of p leaves is d m e
global_of p leaves (items.Funcdef c ∷ is) d m (inl e) = cc
global_of p leaves (items.Funcdef c ∷ is) d m (inr e) = global_of p leaves is d m e

pub globals_all : (q : Tables) (leaves : ℕ) (is : List Item) → leaves + leaves_of_globals q is ≤ 65536 → ((d : GlobalCell) → Member (items.GlobalCell d) is → is_sized (definition_named q d.of_type) ≡ true) → AllMet (globals_demands q leaves is)
globals_all q leaves [] l f = tt
globals_all q leaves (items.GlobalCell d ∷ is) l f =
    let few : leaves + length (leaves_named q d.of_type) ≤ 65536 = omega (arith, l) in
    ((f d (inl refl), grind (arith, few)), globals_all q (leaves + length (leaves_named q d.of_type)) is (omega (arith, l)) (λ c m. f c (inr m)))
globals_all q leaves (items.Typedef d ∷ is) l f = globals_all q leaves is l (λ c m. f c (inr m))
globals_all q leaves (items.Funcsig d ∷ is) l f = globals_all q leaves is l (λ c m. f c (inr m))
globals_all q leaves (items.Const d ∷ is) l f = globals_all q leaves is l (λ c m. f c (inr m))
globals_all q leaves (items.Funcdecl d ∷ is) l f = globals_all q leaves is l (λ c m. f c (inr m))
globals_all q leaves (items.Funcdef d ∷ is) l f = globals_all q leaves is l (λ c m. f c (inr m))
