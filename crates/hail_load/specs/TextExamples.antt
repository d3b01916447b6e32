-- Worked examples: texts of scripts.
use Rattle.std.specs.Prelude.{◌≡◌, refl, [], ◌∷◌, ◌++◌, None, codes}
use Rattle.type_definitions.specs.Leaves.{times}
use Rattle.text_forms.specs.declared.fault.FaultKind.TheVariants as kinds
use Rattle.text_forms.specs.Reading.{elements}
use Rattle.ir_lex.specs.WordTable.{words, directives, common_names}
use Rattle.ir_lex.specs.Scanner.{gap_len, next_of}
use Rattle.ir_lex.specs.Walk.{tokens_within, tokens_from}
use Rattle.ir_lex.specs.TokenForms.{mark, name, numeral}
use Rattle.ir_tree.specs.Lists.{global, bracketed}
use Rattle.hail_load.specs.Sources.{object, root, index, target, reference, plain, members, list, source}
use Rattle.hail_load.specs.Grammar.{new_command, newhybrid_command, init_command, command, hail}
use Rattle.hail_load.specs.declared.tree.Root.TheVariants as roots
use Rattle.hail_load.specs.declared.tree.Piece.TheVariants as pieces
use Rattle.hail_load.specs.declared.tree.Command.TheVariants as commands
use Rattle.hail_load.specs.declared.fault.HailKind.TheVariants.{Text, Unknown, Duplicate}
use Rattle.hail_load.specs.Texts.{hail_commands}
use Rattle.hail_load.specs.Samples.{text_fault, stands, named, plain_number}

commands_are_read :
    (hail_commands (codes ".new $a <@n> .newhybrid $h <@hy> 0x10") ≡ commands.New 0 (named 5 (codes "$a")) (named 9 (codes "@n")) ∷ commands.NewHybrid 13 (named 24 (codes "$h")) (named 28 (codes "@hy")) (plain_number 33 16) ∷ [])
    × (hail_commands (codes ".init $h[1][2] = 7") ≡ commands.Init (record { root = roots.Object (named 6 (codes "$h")); indexes = record { place = 8; number = plain_number 9 1 } ∷ record { place = 11; number = plain_number 12 2 } ∷ [] }) (pieces.Number (plain_number 17 7) ∷ []) ∷ [])
    × (hail_commands (codes ".init @p = {&$a[1] 5 {NULL @k}}") ≡ commands.Init (record { root = roots.Global (named 6 (codes "@p")); indexes = [] }) (pieces.List 11 3 ∷ pieces.Reference 12 (roots.Object (named 13 (codes "$a"))) ∷ pieces.Index (record { place = 15; number = plain_number 16 1 }) ∷ pieces.Number (plain_number 19 5) ∷ pieces.List 21 2 ∷ pieces.Null 22 ∷ pieces.Global (named 27 (codes "@k")) ∷ []) ∷ [])
    × (hail_commands (codes ".init @p = &$h[0][1] .new $b <@v>") ≡ commands.Init (record { root = roots.Global (named 6 (codes "@p")); indexes = [] }) (pieces.Reference 11 (roots.Object (named 12 (codes "$h"))) ∷ pieces.Index (record { place = 14; number = plain_number 15 0 }) ∷ pieces.Index (record { place = 17; number = plain_number 18 1 }) ∷ []) ∷ commands.New 21 (named 26 (codes "$b")) (named 30 (codes "@v")) ∷ [])
unfolding tokens_from tokens_within next_of gap_len words directives common_names elements mark name numeral global bracketed object root index target reference plain members list source new_command newhybrid_command init_command command hail
commands_are_read = (refl, refl, refl, refl)

good_texts :
    (text_fault (codes "") ≡ None)
    × (text_fault (codes ".new $a <@n> .newhybrid $h <@hy> 2 .init $a = {5 $a} .init $h[0][1] = 9 .init @g = $a .init @p = &$h[0][1]") ≡ None)
    × (text_fault (codes ".init @a[-0] = -0") ≡ None)
    × (text_fault (codes ".init @f = @main .init @x = @k .init @p = @x") ≡ None)
unfolding tokens_from tokens_within next_of gap_len words directives common_names elements mark name numeral global bracketed object root index target reference plain members list source new_command newhybrid_command init_command command hail
good_texts = (refl, refl, refl, refl)

names_are_unknown :
    (text_fault (codes ".new $a <@q>") ≡ stands Unknown 9)
    × (text_fault (codes ".new $a <@g>") ≡ stands Unknown 9)
    × (text_fault (codes ".new $a <@s>") ≡ stands Unknown 9)
    × (text_fault (codes ".newhybrid $a <@k> 1") ≡ stands Unknown 15)
    × (text_fault (codes ".init @i64 = 0") ≡ stands Unknown 6)
    × (text_fault (codes ".init @k = 0") ≡ stands Unknown 6)
    × (text_fault (codes ".init @g = @i64") ≡ stands Unknown 11)
    × (text_fault (codes ".init @g = {1 @s}") ≡ stands Unknown 14)
    × (text_fault (codes ".init @p = &@k") ≡ stands Unknown 12)
    × (text_fault (codes ".init @p = &@main") ≡ stands Unknown 12)
    × (text_fault (codes ".init $a = 0") ≡ stands Unknown 6)
    × (text_fault (codes ".init @g = $a") ≡ stands Unknown 11)
    × (text_fault (codes ".init @g = &$a .new $a <@n>") ≡ stands Unknown 12)
unfolding tokens_from tokens_within next_of gap_len words directives common_names elements mark name numeral global bracketed object root index target reference plain members list source new_command newhybrid_command init_command command hail
names_are_unknown = (refl, refl, refl, refl, refl, refl, refl, refl, refl, refl, refl, refl, refl)

names_are_given_once :
    (text_fault (codes ".new $a <@i64> .new $a <@i64>") ≡ stands Duplicate 20)
    × (text_fault (codes ".newhybrid $a <@hy> 1 .new $a <@i64>") ≡ stands Duplicate 27)
unfolding tokens_from tokens_within next_of gap_len words directives common_names elements mark name numeral global bracketed object root index target reference plain members list source new_command newhybrid_command init_command command hail
names_are_given_once = (refl, refl)

numbers_are_not_negative :
    (text_fault (codes ".init @a[-1] = 0") ≡ stands (Text kinds.Unexpected) 9)
    × (text_fault (codes ".init @p = &@a[-1]") ≡ stands (Text kinds.Unexpected) 15)
    × (text_fault (codes ".newhybrid $h <@hy> -1") ≡ stands (Text kinds.Unexpected) 20)
unfolding tokens_from tokens_within next_of gap_len words directives common_names elements mark name numeral global bracketed object root index target reference plain members list source new_command newhybrid_command init_command command hail
numbers_are_not_negative = (refl, refl, refl)

tokens_are_unexpected :
    (text_fault (codes ".new <") ≡ stands (Text kinds.Unexpected) 5)
    × (text_fault (codes ".new $a <$b>") ≡ stands (Text kinds.Unexpected) 9)
    × (text_fault (codes ".new $a <@i64> 5") ≡ stands (Text kinds.Unexpected) 15)
    × (text_fault (codes ".init @g =") ≡ stands (Text kinds.Unexpected) 10)
    × (text_fault (codes ".init @g = .new") ≡ stands (Text kinds.Unexpected) 11)
    × (text_fault (codes ".init @g = 5 [0]") ≡ stands (Text kinds.Unexpected) 13)
    × (text_fault (codes ".init @g = {[0]}") ≡ stands (Text kinds.Unexpected) 12)
    × (text_fault (codes ".init @g = {{}[0]}") ≡ stands (Text kinds.Unexpected) 14)
    × (text_fault (codes ".init @g = {&@a[0] 5 [0]}") ≡ stands (Text kinds.Unexpected) 21)
    × (text_fault (codes ".typedef") ≡ stands (Text kinds.Unexpected) 0)
    × (text_fault (codes ".init @g = {1 2") ≡ stands (Text kinds.Unexpected) 15)
unfolding tokens_from tokens_within next_of gap_len words directives common_names elements mark name numeral global bracketed object root index target reference plain members list source new_command newhybrid_command init_command command hail
tokens_are_unexpected = (refl, refl, refl, refl, refl, refl, refl, refl, refl, refl, refl)

tokens_are_lexical_faults :
    (text_fault (codes ".init @g = ?") ≡ stands (Text kinds.BadByte) 11)
    × (text_fault (codes ".init $ = 5") ≡ stands (Text kinds.BadName) 6)
    × (text_fault (codes ".init @x = 340282366920938463463374607431768211456") ≡ stands (Text kinds.NumberTooLarge) 11)
unfolding tokens_from tokens_within next_of gap_len words directives common_names elements mark name numeral global bracketed object root index target reference plain members list source new_command newhybrid_command init_command command hail
tokens_are_lexical_faults = (refl, refl, refl)

first_fault_counts :
    (text_fault (codes ".init $q }") ≡ stands Unknown 6)
    × (text_fault (codes ".new $a <@q ?") ≡ stands Unknown 9)
    × (text_fault (codes ".new $a <@n> ? .new $a <@n>") ≡ stands (Text kinds.BadByte) 13)
unfolding tokens_from tokens_within next_of gap_len words directives common_names elements mark name numeral global bracketed object root index target reference plain members list source new_command newhybrid_command init_command command hail
first_fault_counts = (refl, refl, refl)

braces_stand_in_one_another :
    (text_fault (codes ".init @g = " ++ times 64 (123 ∷ []) ++ 48 ∷ times 64 (125 ∷ [])) ≡ None)
    × (text_fault (codes ".init @g = " ++ times 65 (123 ∷ [])) ≡ stands (Text kinds.Unexpected) 75)
unfolding tokens_from tokens_within next_of gap_len words directives common_names elements mark name numeral global bracketed object root index target reference plain members list source new_command newhybrid_command init_command command hail
braces_stand_in_one_another = (refl, refl)
