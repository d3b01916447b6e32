-- What a bundle must meet whose names are all defined, and what it is when names are numbers.
use Rattle.std.specs.Prelude.{List}
use Rattle.demands.specs.Demands.{Demands, ◌⨾◌}
use Rattle.ir_tree.specs.declared.items.Item.{Item}
use Rattle.bundle_names.specs.Globals.{globals_of}
use Rattle.check_tables.specs.declared.fault.CheckKind.{CheckKind}
use Rattle.check_tables.specs.declared.tables.Tables.{Tables}
use Rattle.checked_code.specs.Entries.{tables_of}
use Rattle.checked_code.specs.Rules.{item_demands}
use Rattle.checked_code.specs.declared.blocks.Function.{Function}
use Rattle.checked_code.specs.declared.blocks.BlockCode.{BlockCode}
use Rattle.checked_code.specs.Functions.{functions_demands, functions_from, first_blocks, all_blocks}

abbrev pub bundle_tables : List Item → Tables
bundle_tables bundle = tables_of (globals_of bundle) bundle

-- types, constants, signatures and globals, then functions
unfoldable pub check_demands : List Item → Demands CheckKind
check_demands bundle = item_demands (globals_of bundle) bundle ⨾ functions_demands (bundle_tables bundle) 0 bundle

-- its functions by number, and its blocks
abbrev pub bundle_functions : List Item → List Function
bundle_functions bundle = functions_from (bundle_tables bundle) (first_blocks 0 bundle) 0 0 bundle

abbrev pub bundle_blocks : List Item → List BlockCode
bundle_blocks bundle = all_blocks (bundle_tables bundle) 0 0 bundle
