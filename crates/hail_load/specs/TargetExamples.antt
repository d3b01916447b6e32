-- Worked examples: objects, targets and the cells that are set.
use Rattle.std.specs.Prelude.{◌≡◌, refl, [], ◌∷◌, None, Some, codes}
use Rattle.type_definitions.specs.Same.{alike}
use Rattle.type_definitions.specs.Leaves.{leaves_to}
use Rattle.mu_values.specs.declared.scalars.Scalar.TheVariants.{Int, Null}
use Rattle.text_forms.specs.Reading.{elements}
use Rattle.ir_lex.specs.WordTable.{words, directives, common_names}
use Rattle.ir_lex.specs.Scanner.{gap_len, next_of}
use Rattle.ir_lex.specs.Walk.{tokens_within, tokens_from}
use Rattle.ir_lex.specs.TokenForms.{mark, name, numeral}
use Rattle.ir_tree.specs.Lists.{global, bracketed}
use Rattle.hail_load.specs.Sources.{object, root, index, target, reference, plain, members, list, source}
use Rattle.hail_load.specs.Grammar.{new_command, newhybrid_command, init_command, command, hail}
use Rattle.hail_load.specs.declared.fault.LoadKind.TheVariants.{WrongType, OutOfRange, HeapFull}
use Rattle.hail_load.specs.Samples.{fault, refused, cells}

values_are_set :
    (cells 4 (codes ".init @x = 5") ≡ Some (Int 64 5 ∷ []))
    × (cells 2 (codes ".init @a[2] = 5") ≡ Some (Int 64 0 ∷ Int 64 0 ∷ Int 64 5 ∷ []))
    × (cells 6 (codes ".init @w[0] = 5") ≡ Some (Int 64 5 ∷ Null ∷ []))
    × (cells 2 (codes ".init @a = {1 2 3}") ≡ Some (Int 64 1 ∷ Int 64 2 ∷ Int 64 3 ∷ []))
unfolding tokens_from tokens_within next_of gap_len words directives common_names elements mark name numeral global bracketed object root index target reference plain members list source new_command newhybrid_command init_command command hail leaves_to alike
values_are_set = (refl, refl, refl, refl)

parts_are_not_there :
    (fault (codes ".init @a[3] = 5") ≡ refused OutOfRange 9)
    × (fault (codes ".init @w[2] = 5") ≡ refused OutOfRange 9)
    × (fault (codes ".init @x[0] = 5") ≡ refused WrongType 8)
    × (fault (codes ".init @a[1][0] = 5") ≡ refused WrongType 11)
    × (fault (codes ".new $v <@v> .init $v[0] = 5") ≡ refused WrongType 21)
unfolding tokens_from tokens_within next_of gap_len words directives common_names elements mark name numeral global bracketed object root index target reference plain members list source new_command newhybrid_command init_command command hail leaves_to alike
parts_are_not_there = (refl, refl, refl, refl, refl)

parts_of_hybrids :
    (cells 7 (codes ".newhybrid $h <@hf> 2 .init $h[0] = 3") ≡ Some (Int 8 3 ∷ Int 64 0 ∷ Int 64 0 ∷ []))
    × (cells 7 (codes ".newhybrid $h <@hf> 2 .init $h[1] = {3 4}") ≡ Some (Int 8 0 ∷ Int 64 3 ∷ Int 64 4 ∷ []))
    × (cells 7 (codes ".newhybrid $h <@hf> 2 .init $h[1][1] = 4") ≡ Some (Int 8 0 ∷ Int 64 0 ∷ Int 64 4 ∷ []))
    × (cells 7 (codes ".newhybrid $h <@hf> 2 .init $h = {1 {2 3}}") ≡ Some (Int 8 1 ∷ Int 64 2 ∷ Int 64 3 ∷ []))
    × (fault (codes ".newhybrid $h <@hf> 2 .init $h[2] = 3") ≡ refused OutOfRange 31)
    × (fault (codes ".newhybrid $h <@hf> 2 .init $h[1][2] = 3") ≡ refused OutOfRange 34)
    × (fault (codes ".newhybrid $h <@hf> 2 .init $h[1] = {3}") ≡ refused WrongType 36)
    × (fault (codes ".newhybrid $h <@hf> 2 .init $h[1] = 3") ≡ refused WrongType 36)
    × (fault (codes ".newhybrid $h <@hf> 2 .init $h = {1 2}") ≡ refused WrongType 36)
    × (fault (codes ".newhybrid $h <@hf> 2 .init $h = {1}") ≡ refused WrongType 33)
    × (fault (codes ".newhybrid $h <@hf> 2 .init $h = NULL") ≡ refused WrongType 33)
unfolding tokens_from tokens_within next_of gap_len words directives common_names elements mark name numeral global bracketed object root index target reference plain members list source new_command newhybrid_command init_command command hail leaves_to alike
parts_of_hybrids = (refl, refl, refl, refl, refl, refl, refl, refl, refl, refl, refl)

types_of_objects :
    (fault (codes ".new $h <@hy>") ≡ refused WrongType 9)
    × (fault (codes ".newhybrid $h <@n> 340282366920938463463374607431768211455") ≡ refused WrongType 15)
    × (fault (codes ".newhybrid $h <@hy> 10 .new $v <@v>") ≡ None)
unfolding tokens_from tokens_within next_of gap_len words directives common_names elements mark name numeral global bracketed object root index target reference plain members list source new_command newhybrid_command init_command command hail leaves_to alike
types_of_objects = (refl, refl, refl)

cells_are_left :
    (fault (codes ".newhybrid $h <@hy> 10") ≡ None)
    × (fault (codes ".newhybrid $h <@hy> 11") ≡ refused HeapFull 0)
    × (fault (codes ".newhybrid $h <@hy> 340282366920938463463374607431768211455") ≡ refused HeapFull 0)
    × (fault (codes ".newhybrid $h <@hf> 8 .new $a <@n>") ≡ refused HeapFull 22)
unfolding tokens_from tokens_within next_of gap_len words directives common_names elements mark name numeral global bracketed object root index target reference plain members list source new_command newhybrid_command init_command command hail leaves_to alike
cells_are_left = (refl, refl, refl, refl)

-- a source is judged whole before a cell is set; what the commands before made stands
what_commands_before_made :
    (cells 2 (codes ".init @a = {1 2 NULL}") ≡ Some (Int 64 0 ∷ Int 64 0 ∷ Int 64 0 ∷ []))
    × (cells 4 (codes ".init @x = 5 .init @x = NULL") ≡ Some (Int 64 5 ∷ []))
    × (cells 4 (codes ".init @x = 5 .init @a = 5 .init @x = 6") ≡ Some (Int 64 5 ∷ []))
unfolding tokens_from tokens_within next_of gap_len words directives common_names elements mark name numeral global bracketed object root index target reference plain members list source new_command newhybrid_command init_command command hail leaves_to alike
what_commands_before_made = (refl, refl, refl)
