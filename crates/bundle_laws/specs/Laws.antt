-- Laws of checked bundles.
use Rattle.std.specs.Prelude.{◌≡◌, ℕ, List, Some, None, slice_get}
use Rattle.demands.specs.Demands.{first_unmet}
use Rattle.ir_tree.specs.declared.items.Item.{Item}
use Rattle.bundle_laws.specs.Typed.{TablesFit}
use Rattle.bundle_names.specs.Naming.{name_demands}
use Rattle.checked_code.specs.declared.blocks.BlockCode.{BlockCode}
use Rattle.checked_code.specs.Checking.{bundle_tables, bundle_blocks, check_demands}
use Rattle.bundle_laws.specs.Accepted.{FunctionsFit, CodeOf}

-- of the tables of a bundle that meets its demands is known what well typed code asks
abbrev pub AcceptedTablesFit : Type 0
AcceptedTablesFit = (bundle : List Item) → first_unmet (name_demands bundle) ≡ None → first_unmet (check_demands bundle) ≡ None → TablesFit (bundle_tables bundle)

-- in a bundle that meets its demands, each block of each function is well typed code
abbrev pub AcceptedBlocksFit : Type 0
AcceptedBlocksFit = (bundle : List Item) → first_unmet (name_demands bundle) ≡ None → first_unmet (check_demands bundle) ≡ None → FunctionsFit (bundle_tables bundle) 0 bundle

-- the same by number: the code of each block of the bundle is well typed, and goes to blocks of the bundle
abbrev pub AcceptedCodeFits : Type 0
AcceptedCodeFits = (bundle : List Item) → first_unmet (name_demands bundle) ≡ None → first_unmet (check_demands bundle) ≡ None →
    (n : ℕ) (c : BlockCode) → slice_get (bundle_blocks bundle) n ≡ Some c → CodeOf (bundle_tables bundle) bundle (bundle_blocks bundle) n c
