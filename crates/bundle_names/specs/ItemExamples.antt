-- Worked examples. Uses in items, and the order of all demands.
use Rattle.std.specs.Prelude.{◌≡◌, refl, codes}
use Rattle.text_forms.specs.Reading.{elements}
use Rattle.ir_lex.specs.WordTable.{words, directives, common_names}
use Rattle.ir_lex.specs.Scanner.{gap_len, next_of}
use Rattle.ir_lex.specs.Walk.{tokens_within, tokens_from}
use Rattle.ir_lex.specs.TokenForms.{mark, name, numeral}
use Rattle.ir_tree.specs.Words.{order}
use Rattle.ir_tree.specs.Lists.{global, bracketed, local, bracketed_pair, global_list, local_list, type_list, value, values, dest, exc, keep, pass_values, throw_exc, new_stack_clause}
use Rattle.ir_tree.specs.Types.{int_type, some_types, struct_type, array_type, hybrid_type, type_form, literal}
use Rattle.ir_tree.specs.Computations.{binary, compare, convert, refcast, select, bracketed_field, extractvalue, insertvalue, computation}
use Rattle.ir_tree.specs.Control.{branch, branch2, switch_case, switch, call, tailcall, ret, throw, control}
use Rattle.ir_tree.specs.Objects.{new_object, newhybrid, alloca, allocation, getiref, getfieldiref, getelemiref, shiftiref, getvarpartiref, addressing_form}
use Rattle.ir_tree.specs.Accesses.{optional_order, load, store, weak, cmpxchg, atomicrmw, fence, access}
use Rattle.ir_tree.specs.Stacks.{trap, wpexc, watchpoint, wpbranch, trapping_form, returning, killing, swapstack, threadlocal, newthread, stack_switch}
use Rattle.ir_tree.specs.CommonForms.{one_value, two_values, three_values, new_stack, kill_stack, thread_exit, current_stack, set_threadlocal, get_threadlocal, futex_wait, futex_wake, futex_wait_timeout, common_inst}
use Rattle.ir_tree.specs.Instructions.{op, label, labelled}
use Rattle.ir_tree.specs.Blocks.{pair, params, handler, head_rest, head, result}
use Rattle.ir_tree.specs.Bodies.{results, more_results, body_rest, body}
use Rattle.ir_tree.specs.Items.{typedef, funcsig, constant, global_cell, funcdecl, funcdef, item, bundle}
use Rattle.ir_tree.specs.Samples.{meaning}
use Rattle.bundle_names.specs.Verdicts.{verdict, good, duplicate, unknown, wrong_kind}

definitions_come_first :
    (verdict (meaning bundle (codes ".funcsig @s = (@t) -> () .typedef @a = void .typedef @a = void")) ≡ duplicate 53)
    × (verdict (meaning bundle (codes ".funcdef @f VERSION %v <@s> { %e(): RET %x } .global @a <@b> .const @a <@b> = 1")) ≡ duplicate 68)
    × (verdict (meaning bundle (codes ".typedef @a = ref<@b> .typedef @b = void")) ≡ good)
    × (verdict (meaning bundle (codes ".typedef @a = struct<@s @b> .funcsig @s = () -> ()")) ≡ wrong_kind 21)
    × (verdict (meaning bundle (codes ".typedef @a = struct<@b @s> .funcsig @s = () -> ()")) ≡ unknown 21)
unfolding tokens_from tokens_within next_of gap_len words directives common_names elements mark name numeral order global local bracketed bracketed_pair global_list local_list type_list value values dest exc keep pass_values throw_exc new_stack_clause int_type some_types struct_type array_type hybrid_type type_form literal binary compare convert refcast select bracketed_field extractvalue insertvalue computation branch branch2 switch_case switch call tailcall ret throw control new_object newhybrid alloca allocation getiref getfieldiref getelemiref shiftiref getvarpartiref addressing_form optional_order load store weak cmpxchg atomicrmw fence access trap wpexc watchpoint wpbranch trapping_form returning killing swapstack threadlocal newthread stack_switch one_value two_values three_values new_stack kill_stack thread_exit current_stack set_threadlocal get_threadlocal futex_wait futex_wake futex_wait_timeout common_inst op label labelled pair params handler head_rest head result results more_results body_rest body typedef funcsig constant global_cell funcdecl funcdef item bundle
definitions_come_first = (refl, refl, refl, refl, refl)

items_use_names :
    (verdict (meaning bundle (codes ".typedef @a = ref<@b>")) ≡ unknown 18)
    × (verdict (meaning bundle (codes ".typedef @a = iref<@b>")) ≡ unknown 19)
    × (verdict (meaning bundle (codes ".typedef @a = funcref<@a>")) ≡ wrong_kind 22)
    × (verdict (meaning bundle (codes ".typedef @a = array<@b 3>")) ≡ unknown 20)
    × (verdict (meaning bundle (codes ".typedef @a = hybrid<@a @b>")) ≡ unknown 24)
    × (verdict (meaning bundle (codes ".typedef @a = hybrid<@b @c>")) ≡ unknown 21)
    × (verdict (meaning bundle (codes ".typedef @a = stackref .typedef @b = threadref .typedef @c = int<7>")) ≡ good)
    × (verdict (meaning bundle (codes ".funcsig @s = (@b) -> (@c)")) ≡ unknown 15)
    × (verdict (meaning bundle (codes ".funcsig @s = () -> (@s)")) ≡ wrong_kind 21)
    × (verdict (meaning bundle (codes ".funcsig @s = () -> () .const @k <@s> = 1")) ≡ wrong_kind 34)
    × (verdict (meaning bundle (codes ".typedef @t = int<64> .const @k <@t> = { @t }")) ≡ wrong_kind 41)
    × (verdict (meaning bundle (codes ".typedef @t = int<64> .const @k <@t> = { @k @l }")) ≡ unknown 44)
    × (verdict (meaning bundle (codes ".typedef @t = int<64> .const @k <@t> = NULL .const @l <@t> = { @k @m @l } .const @m <@t> = -0")) ≡ good)
    × (verdict (meaning bundle (codes ".funcsig @s = () -> () .global @g <@s>")) ≡ wrong_kind 35)
    × (verdict (meaning bundle (codes ".funcdecl @f <@s>")) ≡ unknown 14)
    × (verdict (meaning bundle (codes ".typedef @t = int<64> .funcdecl @f <@t>")) ≡ wrong_kind 36)
    × (verdict (meaning bundle (codes ".typedef @t = int<64> .funcdef @f VERSION %v <@t> { %e(): RET () }")) ≡ wrong_kind 46)
unfolding tokens_from tokens_within next_of gap_len words directives common_names elements mark name numeral order global local bracketed bracketed_pair global_list local_list type_list value values dest exc keep pass_values throw_exc new_stack_clause int_type some_types struct_type array_type hybrid_type type_form literal binary compare convert refcast select bracketed_field extractvalue insertvalue computation branch branch2 switch_case switch call tailcall ret throw control new_object newhybrid alloca allocation getiref getfieldiref getelemiref shiftiref getvarpartiref addressing_form optional_order load store weak cmpxchg atomicrmw fence access trap wpexc watchpoint wpbranch trapping_form returning killing swapstack threadlocal newthread stack_switch one_value two_values three_values new_stack kill_stack thread_exit current_stack set_threadlocal get_threadlocal futex_wait futex_wake futex_wait_timeout common_inst op label labelled pair params handler head_rest head result results more_results body_rest body typedef funcsig constant global_cell funcdecl funcdef item bundle
items_use_names = (refl, refl, refl, refl, refl, refl, refl, refl, refl, refl, refl, refl, refl, refl, refl, refl, refl)
