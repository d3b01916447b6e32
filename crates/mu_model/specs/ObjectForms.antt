-- Instructions that make objects, and those that find places in them.
use Rattle.std.specs.Prelude.{ℕ, List, [], ◌∷◌, Option, Some, None, ℤ}
use Rattle.ir_tree.specs.declared.allocating.Allocation.{Allocation}
use Rattle.ir_tree.specs.declared.allocating.Allocation.TheVariants as allocations
use Rattle.ir_tree.specs.declared.addressing.Addressing.{Addressing}
use Rattle.ir_tree.specs.declared.addressing.Addressing.TheVariants as addressings
use Rattle.mu_values.specs.declared.scalars.Scalar.{Scalar}
use Rattle.mu_values.specs.declared.scalars.Scalar.TheVariants.{Null, Object, Place}
use Rattle.mu_values.specs.Integers.{signed}
use Rattle.check_tables.specs.declared.tables.Tables.{Tables}
use Rattle.typed_heap.specs.Places.{with_some, Way, Field, Element, Shift, VarPart}
use Rattle.frames.specs.Activations.{Value}
use Rattle.mu_model.specs.declared.endings.Case.TheVariants as cases
use Rattle.mu_model.specs.Types.{class_width}
use Rattle.mu_model.specs.Acts.{Act, Gives, Faults, Finds, Makes, MakesHybrid, MakesOwn}
use Rattle.mu_model.specs.Operands.{Scope, tables_in, class, value_named, scalar_in, bits_in}
use Rattle.mu_model.specs.ComputationForms.{scalar_act}

-- ---- NEW

abbrev pub new_act : ℕ → Option Act
new_act c = Some (Makes c)

-- ---- NEWHYBRID: so many elements, unsigned, by an integer of the class d

abbrev pub newhybrid_act : Tables → ℕ → ℕ → Option Value → Option Act
newhybrid_act p c d n = with_some (bits_in (class_width p d) n) (λ many. Some (MakesHybrid c many))

-- ---- ALLOCA

abbrev pub alloca_act : ℕ → Option Act
alloca_act c = Some (MakesOwn c)

-- ---- GETIREF: the object's place 0

abbrev pub object_act : Scalar → Option Act
object_act (Object n) = Some (Gives ((Place n 0 ∷ []) ∷ []))
object_act Null = Some (Faults cases.NullAccess)
object_act _ = None

abbrev pub getiref_act : Option Value → Option Act
getiref_act r = with_some (scalar_in r) object_act

-- ---- GETFIELDIREF

abbrev pub getfieldiref_act : ℕ → ℕ → Option Value → Option Act
getfieldiref_act c n l = scalar_act (Finds (Field c n)) l

-- ---- GETELEMIREF and SHIFTIREF: by an index or an offset, signed, of the class d

abbrev pub find_by_act : Tables → (ℤ → Way) → ℕ → Option Value → Option Value → Option Act
find_by_act p way d l i = with_some (class_width p d) (λ w. with_some (bits_in (Some w) i) (λ n. scalar_act (Finds (way (signed w n))) l))

abbrev pub getelemiref_act : Tables → ℕ → ℕ → Option Value → Option Value → Option Act
getelemiref_act p c d l i = find_by_act p (Element c) d l i

abbrev pub shiftiref_act : Tables → ℕ → ℕ → Option Value → Option Value → Option Act
shiftiref_act p c d l i = find_by_act p (Shift c) d l i

-- ---- GETVARPARTIREF

abbrev pub getvarpartiref_act : ℕ → Option Value → Option Act
getvarpartiref_act c l = scalar_act (Finds (VarPart c)) l

-- ---- by name

abbrev pub allocation_act : Scope → List Value → Allocation → Option Act
allocation_act s vars (allocations.New t e) = new_act (class s t)
allocation_act s vars (allocations.Newhybrid h i n e) = newhybrid_act (tables_in s) (class s h) (class s i) (value_named s vars n)
allocation_act s vars (allocations.Alloca t e) = alloca_act (class s t)

abbrev pub addressing_act : Scope → List Value → Addressing → Option Act
addressing_act s vars (addressings.Getiref t r) = getiref_act (value_named s vars r)
addressing_act s vars (addressings.Getfieldiref t n l) = getfieldiref_act (class s t) n.number.magnitude (value_named s vars l)
addressing_act s vars (addressings.Getelemiref t i l x) = getelemiref_act (tables_in s) (class s t) (class s i) (value_named s vars l) (value_named s vars x)
addressing_act s vars (addressings.Shiftiref t i l x) = shiftiref_act (tables_in s) (class s t) (class s i) (value_named s vars l) (value_named s vars x)
addressing_act s vars (addressings.Getvarpartiref h l) = getvarpartiref_act (class s h) (value_named s vars l)
