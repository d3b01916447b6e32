-- What a script sees of a bundle.
use Rattle.std.specs.Prelude.{ℕ, List}
use Rattle.name_scopes.specs.Names.{Names}
use Rattle.type_definitions.specs.declared.definition.TypeDef.{TypeDef}
use Rattle.mu_values.specs.declared.scalars.Scalar.{Scalar}
use Rattle.ir_tree.specs.declared.items.Item.{Item}
use Rattle.bundle_names.specs.declared.globals.Sort.{Sort}
use Rattle.check_tables.specs.declared.tables.Tables.{Tables}
use Rattle.checked_code.specs.Constants.{constant_values}
use Rattle.checked_code.specs.Checking.{bundle_tables}
use Rattle.checked_code.specs.Answers.{global_classes}
use Rattle.typed_heap.specs.Fits.{signature_classes}

-- what its global names stand for; its types; of each constant the class of its type and its value; the class of the type of each
-- global; and the class of the signature of each function
pub record Code : Type 0 where
  pub names : Names Sort
  pub graph : List TypeDef
  pub constants : List ℕ
  pub values : List (List Scalar)
  pub globals : List ℕ
  pub signatures : List ℕ

abbrev pub code_by : Tables → List Item → Code
code_by p bundle =
    record {
      names = p.globals.names;
      graph = p.types.definitions;
      constants = p.constants;
      values = constant_values p bundle;
      globals = global_classes p bundle;
      signatures = signature_classes p;
    }

abbrev pub code_of : List Item → Code
code_of bundle = code_by (bundle_tables bundle) bundle
