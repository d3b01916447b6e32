-- The facts of accepted bundles.
use Rattle.std.proofs.Common.{◌≡◌, ℕ, List, Some, None, slice_get}
use Rattle.demands.specs.Demands.{first_unmet}
use Rattle.ir_tree.specs.declared.items.Item.{Item}
use Rattle.type_definitions.specs.Same.{IsGraph}
use Rattle.checked_code.specs.Checking.{bundle_tables, check_demands}
use Rattle.bundle_laws.specs.Lemmas.Tables.{tables_fit}
use Rattle.typed_heap.specs.Fits.{ValueFits}
use Rattle.typed_heap.specs.Lemmas.Fitted.{some_and, object_fits}
use Rattle.mu_values.specs.declared.scalars.Scalar.{Scalar}
use Rattle.bundle_names.specs.Naming.{name_demands}
use Rattle.check_tables.specs.declared.tables.Signature.{Signature}
use Rattle.checked_code.specs.Constants.{constant_values}
use Rattle.mu_model.specs.Types.{type_graph}
use Rattle.bundle_facts.specs.Facts.{WidthsAreAllowed, ClassesAreDefined, HaveOneShape, PartsHaveClasses, ClassesDecideFits, LeavesOfClasses, RefsAreDefined, IrefsAreDefined, FuncrefsAreDefined, TypesAreThere, ZerosFit, IsSignature, SignaturesAreDefined, ClassesDecideSignatures, FuncrefsDecideSignatures, FunctionsHaveSignatures, FunctionsAreThere, FunctionValuesFit, FunctionsOfClassFit, CalledFunctionsFit, ConstantValuesFit, ConstantsHaveClasses, IntConstantsAreScalars, FirstBlocksFit}
use Rattle.bundle_facts.specs.Lemmas.Shapes.{class_leaves, class_fits, class_place_fits, leaves_of_parts}
use Rattle.bundle_facts.specs.Lemmas.Completed.{is_complete}
use Rattle.bundle_facts.specs.Lemmas.References.{class_at_is, shape_at, ref_refers, iref_refers, funcref_refers}
use Rattle.bundle_facts.specs.Lemmas.Signatures.{EntryOf, is_signature, same_signature, same_class}
use Rattle.bundle_facts.specs.Lemmas.Functions.{are_linked, signature_is, function_fits, of_class, called_class, both_there}
use Rattle.bundle_facts.specs.Lemmas.Constants.{constant_class, constant_fits, int_constant}
use Rattle.bundle_facts.specs.Lemmas.FirstBlocks.{first_block}
use Rattle.bundle_facts.specs.Lemmas.Every.{part_class, has_types}

graph_is : (bundle : List Item) → first_unmet (check_demands bundle) ≡ None → IsGraph (type_graph (bundle_tables bundle))
graph_is bundle checked = (is_complete bundle checked).graph

pub widths_are_allowed : WidthsAreAllowed
widths_are_allowed = λ bundle named checked c w h. (is_complete bundle checked).widths c w h

pub classes_are_defined : ClassesAreDefined
classes_are_defined = λ bundle named checked t c h. class_at_is (bundle_tables bundle).types t c (is_complete bundle checked) h

pub have_one_shape : HaveOneShape
have_one_shape = λ bundle named checked t c d h e. shape_at (bundle_tables bundle).types t c d (is_complete bundle checked) h e

pub parts_have_classes : PartsHaveClasses
parts_have_classes = λ bundle named checked t n k d e h. part_class (bundle_tables bundle) t n k d (tables_fit bundle named checked) e h

pub classes_decide_fits : ClassesDecideFits
classes_decide_fits = λ bundle named checked a b la lb e.
    let g = type_graph (bundle_tables bundle) in
    let i = graph_is bundle checked in
    (class_leaves g i a b la lb e, class_fits g i a b la lb e, class_place_fits g i a b la lb e)

pub leaves_of_classes : LeavesOfClasses
leaves_of_classes = λ bundle named checked. leaves_of_parts (type_graph (bundle_tables bundle)) (graph_is bundle checked) (is_complete bundle checked).finite

pub refs_are_defined : RefsAreDefined
refs_are_defined = λ bundle named checked t c h. ref_refers (bundle_tables bundle).types t c (is_complete bundle checked) h

pub irefs_are_defined : IrefsAreDefined
irefs_are_defined = λ bundle named checked t c h. iref_refers (bundle_tables bundle).types t c (is_complete bundle checked) h

pub funcrefs_are_defined : FuncrefsAreDefined
funcrefs_are_defined = λ bundle named checked t c h. funcref_refers (bundle_tables bundle).types t c (is_complete bundle checked) h

pub types_are_there : TypesAreThere
types_are_there = λ bundle named checked. has_types (bundle_tables bundle) (is_complete bundle checked)

pub zeros_fit : ZerosFit
zeros_fit = λ bundle named checked w c. object_fits (type_graph (bundle_tables bundle)) w c (graph_is bundle checked)

-- ---- signatures and functions

entry_at : (bundle : List Item) → first_unmet (name_demands bundle) ≡ None → first_unmet (check_demands bundle) ≡ None → (n : ℕ) (s : Signature) → slice_get (bundle_tables bundle).signatures n ≡ Some s →
    EntryOf (bundle_tables bundle).types s
entry_at bundle named checked n s h = (are_linked bundle named checked).entry n s h

signature_at : (bundle : List Item) → first_unmet (name_demands bundle) ≡ None → first_unmet (check_demands bundle) ≡ None → (n : ℕ) (s : Signature) → slice_get (bundle_tables bundle).signatures n ≡ Some s →
    IsSignature (bundle_tables bundle) s
signature_at bundle named checked n s h = is_signature (bundle_tables bundle) s (is_complete bundle checked) (entry_at bundle named checked n s h)

pub signatures_are_defined : SignaturesAreDefined
signatures_are_defined = signature_at

pub classes_decide_signatures : ClassesDecideSignatures
classes_decide_signatures = λ bundle named checked m n s r h k e.
    same_signature (bundle_tables bundle).types s r (is_complete bundle checked) (entry_at bundle named checked m s h) (entry_at bundle named checked n r k) e

pub funcrefs_decide_signatures : FuncrefsDecideSignatures
funcrefs_decide_signatures = λ bundle named checked m n s r h k e. same_class (bundle_tables bundle) s r (signature_at bundle named checked m s h) (signature_at bundle named checked n r k) e

pub functions_have_signatures : FunctionsHaveSignatures
functions_have_signatures = λ bundle named checked f s h.
    let found = (are_linked bundle named checked).function f s h in
    (found.0, found.1, signature_is (bundle_tables bundle) f s found.0 h found.1)

pub functions_are_there : FunctionsAreThere
functions_are_there = λ bundle named checked f. both_there bundle f

pub function_values_fit : FunctionValuesFit
function_values_fit = λ bundle named checked w f c e h. function_fits (bundle_tables bundle) w f c (are_linked bundle named checked) e h

pub functions_of_class_fit : FunctionsOfClassFit
functions_of_class_fit = λ bundle named checked n f z h k. of_class (bundle_tables bundle) n f z (are_linked bundle named checked) h k

pub called_functions_fit : CalledFunctionsFit
called_functions_fit = λ bundle named checked w n f z h e k.
    let linked = are_linked bundle named checked in
    let class = called_class (bundle_tables bundle) w n f z linked h e k in
    let same = of_class (bundle_tables bundle) n f z linked h class in
    (class, same.0, same.1)

-- ---- constants

pub constant_values_fit : ConstantValuesFit
constant_values_fit = λ bundle named checked n c h w.
    let value = constant_fits bundle n c named checked h w in
    some_and (λ (v : List Scalar). ValueFits (type_graph (bundle_tables bundle)) w c v) (slice_get (constant_values (bundle_tables bundle) bundle) n) value.0 value.1 value.2

pub constants_have_classes : ConstantsHaveClasses
constants_have_classes = λ bundle named checked n c h. constant_class bundle n c named checked h

pub int_constants_are_scalars : IntConstantsAreScalars
int_constants_are_scalars = λ bundle named checked n c w h e. int_constant bundle n c w named checked h e

-- ---- first blocks

pub first_blocks_fit : FirstBlocksFit
first_blocks_fit = λ bundle named checked have f b function h e. first_block bundle f b function named checked have h e
