-- What the machine asks of the types and functions of a bundle.
use Rattle.std.specs.Prelude.{ℕ, List, Option, slice_get}
use Rattle.type_definitions.specs.declared.definition.TypeDef.{TypeDef}
use Rattle.mu_values.specs.declared.scalars.Scalar.{Scalar}
use Rattle.mu_values.specs.Constants.{width_of}
use Rattle.check_tables.specs.declared.tables.Tables.{Tables}
use Rattle.check_tables.specs.declared.tables.Signature.{Signature}
use Rattle.check_tables.specs.Lookups.{signature_in, noted_classes, takes_of, gives_of}
use Rattle.typed_heap.specs.Objects.{leaf_classes, zeros}

-- ---- types by class

-- the graph of all types
abbrev pub type_graph : Tables → List TypeDef
type_graph p = p.types.definitions

abbrev pub class_definition : Tables → ℕ → Option TypeDef
class_definition p c = slice_get (type_graph p) c

-- the width of an int
abbrev pub class_width : Tables → ℕ → Option ℕ
class_width p c = width_of (class_definition p c)

-- zero and NULL for each leaf
abbrev pub zero_value : Tables → ℕ → List Scalar
zero_value p c = zeros (type_graph p) (leaf_classes (type_graph p) c)

-- ---- functions by number

abbrev pub signature_of : Tables → ℕ → Option Signature
signature_of p f = signature_in p (slice_get p.functions f)

abbrev pub classes_taken : Tables → ℕ → List ℕ
classes_taken p f = noted_classes (takes_of (signature_of p f))

abbrev pub classes_given : Tables → ℕ → List ℕ
classes_given p f = noted_classes (gives_of (signature_of p f))
