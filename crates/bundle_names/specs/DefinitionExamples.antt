-- Worked examples. Definitions: each name has one in its space.
use Rattle.std.specs.Prelude.{◌≡◌, refl, codes}
use Rattle.text_forms.specs.Reading.{elements}
use Rattle.ir_lex.specs.WordTable.{words, directives, common_names}
use Rattle.ir_lex.specs.Scanner.{gap_len, next_of}
use Rattle.ir_lex.specs.Walk.{tokens_within, tokens_from}
use Rattle.ir_lex.specs.TokenForms.{mark, name, numeral}
use Rattle.ir_tree.specs.Words.{order}
use Rattle.ir_tree.specs.Lists.{global, bracketed, local, bracketed_pair, global_list, local_list, type_list, value, values, dest, exc, keep, pass_values, throw_exc, new_stack_clause}
use Rattle.ir_tree.specs.Types.{int_type, some_types, struct_type, array_type, hybrid_type, type_form, literal}
use Rattle.ir_tree.specs.Computations.{binary, compare, convert, refcast, select, bracketed_field, extractvalue, insertvalue, computation}
use Rattle.ir_tree.specs.Control.{branch, branch2, switch_case, switch, call, tailcall, ret, throw, control}
use Rattle.ir_tree.specs.Objects.{new_object, newhybrid, alloca, allocation, getiref, getfieldiref, getelemiref, shiftiref, getvarpartiref, addressing_form}
use Rattle.ir_tree.specs.Accesses.{optional_order, load, store, weak, cmpxchg, atomicrmw, fence, access}
use Rattle.ir_tree.specs.Stacks.{trap, wpexc, watchpoint, wpbranch, trapping_form, returning, killing, swapstack, threadlocal, newthread, stack_switch}
use Rattle.ir_tree.specs.CommonForms.{one_value, two_values, three_values, new_stack, kill_stack, thread_exit, current_stack, set_threadlocal, get_threadlocal, futex_wait, futex_wake, futex_wait_timeout, common_inst}
use Rattle.ir_tree.specs.Instructions.{op, label, labelled}
use Rattle.ir_tree.specs.Blocks.{pair, params, handler, head_rest, head, result}
use Rattle.ir_tree.specs.Bodies.{results, more_results, body_rest, body}
use Rattle.ir_tree.specs.Items.{typedef, funcsig, constant, global_cell, funcdecl, funcdef, item, bundle}
use Rattle.ir_tree.specs.Samples.{meaning}
use Rattle.bundle_names.specs.Verdicts.{verdict, good, duplicate}

global_names_are_one_space :
    (verdict (meaning bundle (codes ".typedef @a = void .typedef @a = void")) ≡ duplicate 28)
    × (verdict (meaning bundle (codes ".typedef @a = void .funcsig @a = () -> ()")) ≡ duplicate 28)
    × (verdict (meaning bundle (codes ".typedef @a = void .const @a <@b> = 1")) ≡ duplicate 26)
    × (verdict (meaning bundle (codes ".typedef @a = void .global @a <@b>")) ≡ duplicate 27)
    × (verdict (meaning bundle (codes ".funcdecl @f <@s> .funcdecl @f <@s>")) ≡ duplicate 28)
    × (verdict (meaning bundle (codes ".funcdef @f VERSION %v <@s> { %e(): RET () } .funcdef @f VERSION %v <@s> { %e(): RET () }")) ≡ duplicate 54)
    × (verdict (meaning bundle (codes ".funcdecl @f <@s> .typedef @f = void")) ≡ duplicate 27)
    × (verdict (meaning bundle (codes ".typedef @f = void .funcdecl @f <@s>")) ≡ duplicate 29)
    × (verdict (meaning bundle (codes ".global @f <@t> .funcdef @f VERSION %v <@s> { %e(): RET () }")) ≡ duplicate 25)
    × (verdict (meaning bundle (codes ".funcsig @s = () -> () .funcdecl @f <@s> .funcdef @f VERSION %v <@s> { %e(): RET () }")) ≡ good)
    × (verdict (meaning bundle (codes ".funcsig @s = () -> () .funcdef @f VERSION %v <@s> { %e(): RET () } .funcdecl @f <@s>")) ≡ good)
    × (verdict (meaning bundle (codes ".funcdecl @f <@s> .funcdef @f VERSION %v <@s> { %e(): RET () } .funcdecl @f <@s>")) ≡ duplicate 73)
unfolding tokens_from tokens_within next_of gap_len words directives common_names elements mark name numeral order global local bracketed bracketed_pair global_list local_list type_list value values dest exc keep pass_values throw_exc new_stack_clause int_type some_types struct_type array_type hybrid_type type_form literal binary compare convert refcast select bracketed_field extractvalue insertvalue computation branch branch2 switch_case switch call tailcall ret throw control new_object newhybrid alloca allocation getiref getfieldiref getelemiref shiftiref getvarpartiref addressing_form optional_order load store weak cmpxchg atomicrmw fence access trap wpexc watchpoint wpbranch trapping_form returning killing swapstack threadlocal newthread stack_switch one_value two_values three_values new_stack kill_stack thread_exit current_stack set_threadlocal get_threadlocal futex_wait futex_wake futex_wait_timeout common_inst op label labelled pair params handler head_rest head result results more_results body_rest body typedef funcsig constant global_cell funcdecl funcdef item bundle
global_names_are_one_space = (refl, refl, refl, refl, refl, refl, refl, refl, refl, refl, refl, refl)

local_names_are_one_space :
    (verdict (meaning bundle (codes ".funcdef @f VERSION %v <@s> { %e(): RET () %e(): RET () }")) ≡ duplicate 43)
    × (verdict (meaning bundle (codes ".funcdef @f VERSION %v <@s> { %e(<@t> %a <@t> %a): RET () }")) ≡ duplicate 46)
    × (verdict (meaning bundle (codes ".funcdef @f VERSION %v <@s> { %e(<@t> %a) [%a]: RET () }")) ≡ duplicate 43)
    × (verdict (meaning bundle (codes ".funcdef @f VERSION %v <@s> { %e(<@t> %a): %a = ADD <@t> %a %a }")) ≡ duplicate 43)
    × (verdict (meaning bundle (codes ".funcdef @f VERSION %v <@s> { %e() [%h]: [%h] TRAP <> }")) ≡ duplicate 42)
    × (verdict (meaning bundle (codes ".funcdef @f VERSION %v <@s> { %e(): %a = [%a] ADD <@t> @k @k }")) ≡ duplicate 42)
    × (verdict (meaning bundle (codes ".funcdef @f VERSION %v <@s> { %e(): (%a %a) = TRAP <@t @t> }")) ≡ duplicate 40)
    × (verdict (meaning bundle (codes ".funcdef @f VERSION %v <@s> { %e(): [%a] TRAP <> %a = TRAP <@t> }")) ≡ duplicate 49)
    × (verdict (meaning bundle (codes ".funcsig @s = () -> () .funcdef @f VERSION %v <@s> { %e() [%e]: [%l] TRAP <> RET () %n() [%e]: [%l] TRAP <> RET () }")) ≡ good)
unfolding tokens_from tokens_within next_of gap_len words directives common_names elements mark name numeral order global local bracketed bracketed_pair global_list local_list type_list value values dest exc keep pass_values throw_exc new_stack_clause int_type some_types struct_type array_type hybrid_type type_form literal binary compare convert refcast select bracketed_field extractvalue insertvalue computation branch branch2 switch_case switch call tailcall ret throw control new_object newhybrid alloca allocation getiref getfieldiref getelemiref shiftiref getvarpartiref addressing_form optional_order load store weak cmpxchg atomicrmw fence access trap wpexc watchpoint wpbranch trapping_form returning killing swapstack threadlocal newthread stack_switch one_value two_values three_values new_stack kill_stack thread_exit current_stack set_threadlocal get_threadlocal futex_wait futex_wake futex_wait_timeout common_inst op label labelled pair params handler head_rest head result results more_results body_rest body typedef funcsig constant global_cell funcdecl funcdef item bundle
local_names_are_one_space = (refl, refl, refl, refl, refl, refl, refl, refl, refl)
