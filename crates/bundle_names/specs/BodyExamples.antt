-- Worked examples. Uses in functions.
use Rattle.std.specs.Prelude.{◌≡◌, refl, codes}
use Rattle.text_forms.specs.Reading.{elements}
use Rattle.ir_lex.specs.WordTable.{words, directives, common_names}
use Rattle.ir_lex.specs.Scanner.{gap_len, next_of}
use Rattle.ir_lex.specs.Walk.{tokens_within, tokens_from}
use Rattle.ir_lex.specs.TokenForms.{mark, name, numeral}
use Rattle.ir_tree.specs.Words.{order}
use Rattle.ir_tree.specs.Lists.{global, bracketed, local, bracketed_pair, global_list, local_list, type_list, value, values, dest, exc, keep, pass_values, throw_exc, new_stack_clause}
use Rattle.ir_tree.specs.Types.{int_type, some_types, struct_type, array_type, hybrid_type, type_form, literal}
use Rattle.ir_tree.specs.Computations.{binary, compare, convert, refcast, select, bracketed_field, extractvalue, insertvalue, computation}
use Rattle.ir_tree.specs.Control.{branch, branch2, switch_case, switch, call, tailcall, ret, throw, control}
use Rattle.ir_tree.specs.Objects.{new_object, newhybrid, alloca, allocation, getiref, getfieldiref, getelemiref, shiftiref, getvarpartiref, addressing_form}
use Rattle.ir_tree.specs.Accesses.{optional_order, load, store, weak, cmpxchg, atomicrmw, fence, access}
use Rattle.ir_tree.specs.Stacks.{trap, wpexc, watchpoint, wpbranch, trapping_form, returning, killing, swapstack, threadlocal, newthread, stack_switch}
use Rattle.ir_tree.specs.CommonForms.{one_value, two_values, three_values, new_stack, kill_stack, thread_exit, current_stack, set_threadlocal, get_threadlocal, futex_wait, futex_wake, futex_wait_timeout, common_inst}
use Rattle.ir_tree.specs.Instructions.{op, label, labelled}
use Rattle.ir_tree.specs.Blocks.{pair, params, handler, head_rest, head, result}
use Rattle.ir_tree.specs.Bodies.{results, more_results, body_rest, body}
use Rattle.ir_tree.specs.Items.{typedef, funcsig, constant, global_cell, funcdecl, funcdef, item, bundle}
use Rattle.ir_tree.specs.Samples.{meaning}
use Rattle.bundle_names.specs.Verdicts.{verdict, good, unknown, wrong_kind}

functions_use_names :
    (verdict (meaning bundle (codes ".funcsig @s = () -> () .funcdef @f VERSION %v <@s> { %e(<@t> %a): RET () }")) ≡ unknown 57)
    × (verdict (meaning bundle (codes ".funcsig @s = () -> () .funcdef @f VERSION %v <@s> { %e(): RET %x }")) ≡ unknown 63)
    × (verdict (meaning bundle (codes ".funcsig @s = () -> () .funcdef @f VERSION %v <@s> { %e(): RET %e }")) ≡ unknown 63)
    × (verdict (meaning bundle (codes ".funcsig @s = () -> () .funcdef @f VERSION %v <@s> { %e() [%h]: BRANCH %h() }")) ≡ unknown 71)
    × (verdict (meaning bundle (codes ".funcsig @s = () -> () .funcdef @f VERSION %v <@s> { %e(): [%l] TRAP <> RET %l }")) ≡ unknown 76)
    × (verdict (meaning bundle (codes ".funcsig @s = () -> () .funcdef @f VERSION %v <@s> { %e(): RET %x %n() [%x]: RET () }")) ≡ good)
    × (verdict (meaning bundle (codes ".funcsig @s = () -> () .typedef @t = int<64> .funcdef @f VERSION %v <@s> { %e(): RET %a %a = ADD <@t> %a %a }")) ≡ good)
    × (verdict (meaning bundle (codes ".funcsig @s = () -> () .funcdef @f VERSION %v <@s> { %e(): RET @s }")) ≡ wrong_kind 63)
    × (verdict (meaning bundle (codes ".funcsig @s = () -> () .typedef @t = int<64> .funcdef @f VERSION %v <@s> { %e(): RET @t }")) ≡ wrong_kind 85)
    × (verdict (meaning bundle (codes ".funcsig @s = () -> () .typedef @t = int<64> .funcdef @f VERSION %v <@s> { %e(): RET (@f @g @k) } .global @g <@t> .const @k <@t> = 1")) ≡ good)
    × (verdict (meaning bundle (codes ".funcsig @s = () -> () .funcdef @f VERSION %v <@s> { %e(): TRAP <> KEEPALIVE(%x) }")) ≡ unknown 77)
    × (verdict (meaning bundle (codes ".funcsig @s = () -> () .typedef @t = int<64> .funcdef @f VERSION %v <@s> { %e(<@t> %a): SWITCH <@t> %a %e(%a) { @f %e(%a) } }")) ≡ wrong_kind 112)
    × (verdict (meaning bundle (codes ".funcsig @s = () -> () .typedef @t = int<64> .funcdef @f VERSION %v <@s> { %e(<@t> %a): SWITCH <@t> %a %e(%a) { @g %e(%a) } } .global @g <@t>")) ≡ wrong_kind 112)
unfolding tokens_from tokens_within next_of gap_len words directives common_names elements mark name numeral order global local bracketed bracketed_pair global_list local_list type_list value values dest exc keep pass_values throw_exc new_stack_clause int_type some_types struct_type array_type hybrid_type type_form literal binary compare convert refcast select bracketed_field extractvalue insertvalue computation branch branch2 switch_case switch call tailcall ret throw control new_object newhybrid alloca allocation getiref getfieldiref getelemiref shiftiref getvarpartiref addressing_form optional_order load store weak cmpxchg atomicrmw fence access trap wpexc watchpoint wpbranch trapping_form returning killing swapstack threadlocal newthread stack_switch one_value two_values three_values new_stack kill_stack thread_exit current_stack set_threadlocal get_threadlocal futex_wait futex_wake futex_wait_timeout common_inst op label labelled pair params handler head_rest head result results more_results body_rest body typedef funcsig constant global_cell funcdecl funcdef item bundle
functions_use_names = (refl, refl, refl, refl, refl, refl, refl, refl, refl, refl, refl, refl, refl)
