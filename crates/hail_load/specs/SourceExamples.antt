-- Worked examples: sources, met and unmet.
use Rattle.std.specs.Prelude.{◌≡◌, refl, ℕ, false, List, [], ◌∷◌, ◌++◌, None, Some, codes}
use Rattle.type_definitions.specs.Same.{alike}
use Rattle.type_definitions.specs.Leaves.{times, leaves_to}
use Rattle.mu_values.specs.declared.scalars.Scalar.TheVariants.{Int, Null, Object, Place, Func}
use Rattle.text_forms.specs.Reading.{elements}
use Rattle.ir_lex.specs.WordTable.{words, directives, common_names}
use Rattle.ir_lex.specs.Scanner.{gap_len, next_of}
use Rattle.ir_lex.specs.Walk.{tokens_within, tokens_from}
use Rattle.ir_lex.specs.TokenForms.{mark, name, numeral}
use Rattle.ir_tree.specs.Lists.{global, bracketed}
use Rattle.hail_load.specs.Sources.{object, root, index, target, reference, plain, members, list, source}
use Rattle.hail_load.specs.Grammar.{new_command, newhybrid_command, init_command, command, hail}
use Rattle.hail_load.specs.declared.fault.LoadKind.TheVariants.{WrongType, OutOfRange}
use Rattle.mu_values.specs.declared.scalars.Scalar.{Scalar}
use Rattle.typed_heap.specs.Objects.{HeapObject}
use Rattle.hail_load.specs.Texts.{hail_commands}
use Rattle.hail_load.specs.Code.{Code}
use Rattle.hail_load.specs.declared.parts.Part.TheVariants.{Value, Hybrid}
use Rattle.hail_load.specs.Loading.{load}
use Rattle.hail_load.specs.Samples.{sample, start, fault, refused, cells}

abbrev two_globals : Code
two_globals = record sample { globals = 2 ∷ 3 ∷ [] }

-- an object of these leaves that begins with these scalars
abbrev holding : List ℕ → List Scalar → HeapObject
holding leaves initial = record { leaves = leaves; initial = initial; dead = false }

numbers_fit_ints :
    (cells 5 (codes ".init @b = 255") ≡ Some (Int 8 255 ∷ []))
    × (cells 5 (codes ".init @b = -128") ≡ Some (Int 8 128 ∷ []))
    × (fault (codes ".init @b = 256") ≡ refused OutOfRange 11)
    × (fault (codes ".init @b = -129") ≡ refused OutOfRange 11)
    × (fault (codes ".init @g = 5") ≡ refused WrongType 11)
    × (fault (codes ".init @a = 5") ≡ refused WrongType 11)
unfolding tokens_from tokens_within next_of gap_len words directives common_names elements mark name numeral global bracketed object root index target reference plain members list source new_command newhybrid_command init_command command hail leaves_to alike
numbers_fit_ints = (refl, refl, refl, refl, refl, refl)

null_fits_references :
    (cells 0 (codes ".init @g = NULL") ≡ Some (Null ∷ []))
    × (cells 1 (codes ".init @p = NULL") ≡ Some (Null ∷ []))
    × (cells 3 (codes ".init @f = NULL") ≡ Some (Null ∷ []))
    × (fault (codes ".init @x = NULL") ≡ refused WrongType 11)
    × (fault (codes ".init @w = NULL") ≡ refused WrongType 11)
unfolding tokens_from tokens_within next_of gap_len words directives common_names elements mark name numeral global bracketed object root index target reference plain members list source new_command newhybrid_command init_command command hail leaves_to alike
null_fits_references = (refl, refl, refl, refl, refl)

constants_fit_their_types :
    (cells 4 (codes ".init @x = @k") ≡ Some (Int 64 7 ∷ []))
    × (fault (codes ".init @b = @k") ≡ refused WrongType 11)
    × (fault (codes ".init @p = @k") ≡ refused WrongType 11)
unfolding tokens_from tokens_within next_of gap_len words directives common_names elements mark name numeral global bracketed object root index target reference plain members list source new_command newhybrid_command init_command command hail leaves_to alike
constants_fit_their_types = (refl, refl, refl)

globals_fit_irefs :
    (cells 1 (codes ".init @p = @x") ≡ Some (Place 4 0 ∷ []))
    × (cells 1 (codes ".init @p = @a") ≡ Some (Place 2 0 ∷ []))
    × (fault (codes ".init @p = @b") ≡ refused WrongType 11)
    × (fault (codes ".init @x = @x") ≡ refused WrongType 11)
    × (fault (codes ".init @g = @w") ≡ refused WrongType 11)
unfolding tokens_from tokens_within next_of gap_len words directives common_names elements mark name numeral global bracketed object root index target reference plain members list source new_command newhybrid_command init_command command hail leaves_to alike
globals_fit_irefs = (refl, refl, refl, refl, refl)

functions_fit_funcrefs :
    (cells 3 (codes ".init @f = @main") ≡ Some (Func 0 ∷ []))
    × (fault (codes ".init @x = @main") ≡ refused WrongType 11)
unfolding tokens_from tokens_within next_of gap_len words directives common_names elements mark name numeral global bracketed object root index target reference plain members list source new_command newhybrid_command init_command command hail leaves_to alike
functions_fit_funcrefs = (refl, refl)

objects_fit_refs :
    (cells 0 (codes ".new $a <@n> .init @g = $a") ≡ Some (Object 7 ∷ []))
    × (fault (codes ".new $a <@i64> .init @g = $a") ≡ refused WrongType 26)
    × (fault (codes ".new $a <@i64> .init @p = $a") ≡ refused WrongType 26)
unfolding tokens_from tokens_within next_of gap_len words directives common_names elements mark name numeral global bracketed object root index target reference plain members list source new_command newhybrid_command init_command command hail leaves_to alike
objects_fit_refs = (refl, refl, refl)

-- whether an iref is wanted is judged before what stands behind the `&`, and whether the place fits after it
places_fit_irefs :
    (cells 1 (codes ".init @p = &@a[1]") ≡ Some (Place 2 1 ∷ []))
    × (cells 1 (codes ".init @p = &@a") ≡ Some (Place 2 0 ∷ []))
    × (cells 1 (codes ".newhybrid $h <@hf> 2 .init @p = &$h[1]") ≡ Some (Place 7 1 ∷ []))
    × (fault (codes ".init @p = &@b") ≡ refused WrongType 11)
    × (fault (codes ".init @x = &@a[9]") ≡ refused WrongType 11)
    × (fault (codes ".init @p = &@a[9]") ≡ refused OutOfRange 15)
    × (fault (codes ".init @p = &@x[0]") ≡ refused WrongType 14)
unfolding tokens_from tokens_within next_of gap_len words directives common_names elements mark name numeral global bracketed object root index target reference plain members list source new_command newhybrid_command init_command command hail leaves_to alike
places_fit_irefs = (refl, refl, refl, refl, refl, refl, refl)

lists_fit_parts :
    (cells 6 (codes ".new $a <@n> .init @w = {9 $a}") ≡ Some (Int 64 9 ∷ Object 7 ∷ []))
    × (fault (codes ".init @a = {1 2}") ≡ refused WrongType 11)
    × (fault (codes ".init @a = {1 2 3 4}") ≡ refused WrongType 11)
    × (fault (codes ".init @a = {NULL}") ≡ refused WrongType 11)
    × (fault (codes ".init @x = {1}") ≡ refused WrongType 11)
    × (fault (codes ".new $v <@v> .init $v = {}") ≡ refused WrongType 24)
    × (fault (codes ".init @a = {1 NULL 99999999999999999999}") ≡ refused WrongType 14)
    × (fault (codes ".init @a = {1 {} 99999999999999999999}") ≡ refused WrongType 14)
    × (fault (codes ".init @g = " ++ times 64 (123 ∷ []) ++ 48 ∷ times 64 (125 ∷ [])) ≡ refused WrongType 11)
unfolding tokens_from tokens_within next_of gap_len words directives common_names elements mark name numeral global bracketed object root index target reference plain members list source new_command newhybrid_command init_command command hail leaves_to alike
lists_fit_parts = (refl, refl, refl, refl, refl, refl, refl, refl, refl)

-- objects that lead to each other, where there are two globals
two_nodes_and_a_hybrid : load two_globals (start two_globals 100) (hail_commands (codes ".new $a <@n> .new $b <@n> .newhybrid $h <@hy> 2 .init $a = {5 $b} .init $b = {7 $a} .init $h[0][1] = 9 .init @g = $a .init @p = &$h[0][1]")) ≡ record { store = record { objects = holding (2 ∷ []) (Object 2 ∷ []) ∷ holding (3 ∷ []) (Place 4 1 ∷ []) ∷ holding (0 ∷ 2 ∷ []) (Int 64 5 ∷ Object 3 ∷ []) ∷ holding (0 ∷ 2 ∷ []) (Int 64 7 ∷ Object 2 ∷ []) ∷ holding (0 ∷ 0 ∷ []) (Int 64 0 ∷ Int 64 9 ∷ []) ∷ []; left = 94; made = (codes "$a", record { object = 2; part = Value 1 }) ∷ (codes "$b", record { object = 3; part = Value 1 }) ∷ (codes "$h", record { object = 4; part = Hybrid 4 2 }) ∷ [] }; fault = None }
unfolding tokens_from tokens_within next_of gap_len words directives common_names elements mark name numeral global bracketed object root index target reference plain members list source new_command newhybrid_command init_command command hail leaves_to alike
two_nodes_and_a_hybrid = refl
