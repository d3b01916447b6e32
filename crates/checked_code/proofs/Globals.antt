-- The globals are as many as their types.
use Rattle.std.proofs.Common.{◌≡◌, List, [], ◌∷◌, length, refl, arith}
use Rattle.ir_tree.specs.declared.items.Item.{Item}
use Rattle.ir_tree.specs.declared.items.Item.TheVariants as items
use Rattle.mu_types.specs.Graph.{Table}
use Rattle.bundle_names.specs.declared.globals.Globals.{Globals}
use Rattle.bundle_names.specs.Globals.{globals_of}
use Rattle.check_tables.specs.declared.tables.Tables.{Tables}
use Rattle.checked_code.specs.Graph.{table_of}
use Rattle.checked_code.specs.Entries.{global_entries, tables_of}
use Rattle.checked_code.specs.Answers.{global_classes}
use Rattle.checked_code.specs.Checking.{bundle_tables}

-- each global has one entry and one class
entered : (t : Table) (g : Globals) (p : Tables) (is : List Item) → length (global_entries t g is) ≡ length (global_classes p is)
entered t g p [] = refl
entered t g p (items.Typedef d ∷ is) = entered t g p is
entered t g p (items.Funcsig d ∷ is) = entered t g p is
entered t g p (items.Const d ∷ is) = entered t g p is
entered t g p (items.GlobalCell d ∷ is) = let h = entered t g p is in omega (arith, h)
entered t g p (items.Funcdecl d ∷ is) = entered t g p is
entered t g p (items.Funcdef d ∷ is) = entered t g p is

-- the globals of a bundle are as many as their types
pub as_many_types : (bundle : List Item) → length (bundle_tables bundle).global_cells ≡ length (global_classes (bundle_tables bundle) bundle)
unfolding tables_of
as_many_types bundle = entered (table_of (globals_of bundle) bundle) (globals_of bundle) (bundle_tables bundle) bundle
