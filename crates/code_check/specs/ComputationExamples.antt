-- Worked examples. Instructions that compute, and those that say where the function goes on.
use Rattle.std.specs.Prelude.{◌≡◌, refl, codes}
use Rattle.text_forms.specs.Reading.{elements}
use Rattle.ir_lex.specs.WordTable.{words, directives, common_names}
use Rattle.ir_lex.specs.Scanner.{gap_len, next_of}
use Rattle.ir_lex.specs.Walk.{tokens_within, tokens_from}
use Rattle.ir_lex.specs.TokenForms.{mark, name, numeral}
use Rattle.ir_tree.specs.Words.{order}
use Rattle.ir_tree.specs.Lists.{global, bracketed, local, bracketed_pair, local_list, type_list, value, values, dest, exc, keep, pass_values, throw_exc, new_stack_clause}
use Rattle.ir_tree.specs.Computations.{binary, compare, convert, refcast, select, bracketed_field, extractvalue, insertvalue, computation}
use Rattle.ir_tree.specs.Control.{branch, branch2, switch_case, switch, call, tailcall, ret, throw, control}
use Rattle.ir_tree.specs.Objects.{new_object, newhybrid, alloca, allocation, getiref, getfieldiref, getelemiref, shiftiref, getvarpartiref, addressing_form}
use Rattle.ir_tree.specs.Accesses.{optional_order, load, store, weak, cmpxchg, atomicrmw, fence, access}
use Rattle.ir_tree.specs.Stacks.{trap, wpexc, watchpoint, wpbranch, trapping_form, returning, killing, swapstack, threadlocal, newthread, stack_switch}
use Rattle.ir_tree.specs.CommonForms.{one_value, two_values, three_values, new_stack, kill_stack, thread_exit, current_stack, set_threadlocal, get_threadlocal, futex_wait, futex_wake, futex_wait_timeout, common_inst}
use Rattle.ir_tree.specs.Instructions.{op}
use Rattle.ir_tree.specs.Samples.{meaning}
use Rattle.type_definitions.specs.Same.{alike}
use Rattle.type_definitions.specs.Leaves.{leaves_to}
use Rattle.check_tables.specs.declared.fault.CheckKind.TheVariants.{OperandType, ResultCount, ArgumentCount, ArgumentType, NotLocal, AfterEnding, BadDestination, BadIndex, BadSignature}
use Rattle.checked_code.specs.Operands.{argument_demands}
use Rattle.checked_code.specs.Instructions.{inst_demands}
use Rattle.code_check.specs.Verdicts.{plain, gives_c, plain_then, gives_c_then, good, at}

computations_are_judged :
    (gives_c (meaning op (codes "ADD <@long> %a @one")) ≡ good)
    × (gives_c (meaning op (codes "ADD <@pair> %pair %pair")) ≡ at OperandType 5)
    × (gives_c (meaning op (codes "ADD <@pair> %z %bit")) ≡ at OperandType 5)
    × (gives_c (meaning op (codes "ADD <@maps> %a %a")) ≡ at OperandType 5)
    × (gives_c (meaning op (codes "ADD <@long> %a %bit")) ≡ at OperandType 15)
    × (gives_c (meaning op (codes "ADD <@long> %a @cell")) ≡ at OperandType 15)
    × (gives_c (meaning op (codes "ADD <@long> %a @map")) ≡ at OperandType 15)
    × (gives_c (meaning op (codes "ADD <@long> %z %z")) ≡ at NotLocal 12)
    × (gives_c (meaning op (codes "ADD <@long> %a %c")) ≡ at NotLocal 15)
    × (plain (meaning op (codes "ADD <@long> %a %a")) ≡ at ResultCount 0)
    × (gives_c (meaning op (codes "EQ <@object> %e %e")) ≡ good)
    × (gives_c (meaning op (codes "EQ <@pair> %pair %pair")) ≡ at OperandType 4)
    × (gives_c (meaning op (codes "SLT <@long> %a @one")) ≡ good)
    × (gives_c (meaning op (codes "SLT <@object> %e %e")) ≡ at OperandType 5)
    × (gives_c (meaning op (codes "ZEXT <@bit @long> %bit")) ≡ good)
    × (gives_c (meaning op (codes "ZEXT <@long @bit> %a")) ≡ at OperandType 12)
    × (gives_c (meaning op (codes "TRUNC <@long @bit> %a")) ≡ good)
    × (gives_c (meaning op (codes "TRUNC <@bit @long> %bit")) ≡ at OperandType 12)
    × (gives_c (meaning op (codes "REFCAST <@box @object> %box")) ≡ good)
    × (gives_c (meaning op (codes "REFCAST <@object @place> %e")) ≡ at OperandType 17)
    × (gives_c (meaning op (codes "REFCAST <@long @place> %a")) ≡ at OperandType 9)
unfolding tokens_from tokens_within next_of gap_len words directives common_names elements mark name numeral order global local bracketed bracketed_pair local_list type_list value values dest exc keep pass_values throw_exc new_stack_clause binary compare convert refcast select bracketed_field extractvalue insertvalue computation branch branch2 switch_case switch call tailcall ret throw control new_object newhybrid alloca allocation getiref getfieldiref getelemiref shiftiref getvarpartiref addressing_form optional_order load store weak cmpxchg atomicrmw fence access trap wpexc watchpoint wpbranch trapping_form returning killing swapstack threadlocal newthread stack_switch one_value two_values three_values new_stack kill_stack thread_exit current_stack set_threadlocal get_threadlocal futex_wait futex_wake futex_wait_timeout common_inst op alike leaves_to argument_demands inst_demands
computations_are_judged = (refl, refl, refl, refl, refl, refl, refl, refl, refl, refl, refl, refl, refl, refl, refl, refl, refl, refl, refl, refl, refl)

values_are_chosen_and_changed :
    (gives_c (meaning op (codes "SELECT <@bit @long> %bit %a @one")) ≡ good)
    × (gives_c (meaning op (codes "SELECT <@bit @pair> @yes %pair %pair")) ≡ good)
    × (gives_c (meaning op (codes "SELECT <@long @long> %a %a %a")) ≡ at OperandType 8)
    × (gives_c (meaning op (codes "SELECT <@bit @void> %bit %a %a")) ≡ at OperandType 13)
    × (gives_c (meaning op (codes "SELECT <@bit @many> %bit %a %a")) ≡ at OperandType 13)
    × (gives_c (meaning op (codes "EXTRACTVALUE <@pair 1> %pair")) ≡ good)
    × (gives_c (meaning op (codes "EXTRACTVALUE <@pair 2> %pair")) ≡ at BadIndex 20)
    × (gives_c (meaning op (codes "EXTRACTVALUE <@pair -1> %pair")) ≡ at BadIndex 20)
    × (gives_c (meaning op (codes "EXTRACTVALUE <@pair -0> %pair")) ≡ good)
    × (gives_c (meaning op (codes "EXTRACTVALUE <@pair 0> %a")) ≡ at OperandType 23)
    × (gives_c (meaning op (codes "EXTRACTVALUE <@row 0> %pair")) ≡ at OperandType 14)
    × (gives_c (meaning op (codes "INSERTVALUE <@pair 1> %pair @yes")) ≡ good)
    × (gives_c (meaning op (codes "INSERTVALUE <@pair 1> %pair %a")) ≡ at OperandType 28)
unfolding tokens_from tokens_within next_of gap_len words directives common_names elements mark name numeral order global local bracketed bracketed_pair local_list type_list value values dest exc keep pass_values throw_exc new_stack_clause binary compare convert refcast select bracketed_field extractvalue insertvalue computation branch branch2 switch_case switch call tailcall ret throw control new_object newhybrid alloca allocation getiref getfieldiref getelemiref shiftiref getvarpartiref addressing_form optional_order load store weak cmpxchg atomicrmw fence access trap wpexc watchpoint wpbranch trapping_form returning killing swapstack threadlocal newthread stack_switch one_value two_values three_values new_stack kill_stack thread_exit current_stack set_threadlocal get_threadlocal futex_wait futex_wake futex_wait_timeout common_inst op alike leaves_to argument_demands inst_demands
values_are_chosen_and_changed = (refl, refl, refl, refl, refl, refl, refl, refl, refl, refl, refl, refl, refl)

branches_are_judged :
    (plain (meaning op (codes "BRANCH %m(%a)")) ≡ good)
    × (plain (meaning op (codes "BRANCH %m()")) ≡ at ArgumentCount 9)
    × (plain (meaning op (codes "BRANCH %m(%bit)")) ≡ at ArgumentType 10)
    × (plain (meaning op (codes "BRANCH %h(%a)")) ≡ at BadDestination 7)
    × (plain (meaning op (codes "BRANCH2 %bit %n() %m(%a)")) ≡ good)
    × (plain (meaning op (codes "BRANCH2 %a %n() %n()")) ≡ at OperandType 8)
    × (plain (meaning op (codes "BRANCH2 %z %h() %h()")) ≡ at NotLocal 8)
    × (plain (meaning op (codes "BRANCH2 %bit %n() %m(%z)")) ≡ at NotLocal 21)
    × (plain (meaning op (codes "SWITCH <@long> %a %n() { @one %m(%a) }")) ≡ good)
    × (plain (meaning op (codes "SWITCH <@long> %a %n() { @one %m(%a) @yes %n() }")) ≡ at OperandType 37)
    × (plain (meaning op (codes "SWITCH <@object> %e %n() { }")) ≡ at OperandType 8)
    × (gives_c (meaning op (codes "BRANCH %n()")) ≡ at ResultCount 0)
unfolding tokens_from tokens_within next_of gap_len words directives common_names elements mark name numeral order global local bracketed bracketed_pair local_list type_list value values dest exc keep pass_values throw_exc new_stack_clause binary compare convert refcast select bracketed_field extractvalue insertvalue computation branch branch2 switch_case switch call tailcall ret throw control new_object newhybrid alloca allocation getiref getfieldiref getelemiref shiftiref getvarpartiref addressing_form optional_order load store weak cmpxchg atomicrmw fence access trap wpexc watchpoint wpbranch trapping_form returning killing swapstack threadlocal newthread stack_switch one_value two_values three_values new_stack kill_stack thread_exit current_stack set_threadlocal get_threadlocal futex_wait futex_wake futex_wait_timeout common_inst op alike leaves_to argument_demands inst_demands
branches_are_judged = (refl, refl, refl, refl, refl, refl, refl, refl, refl, refl, refl, refl)

calls_are_judged :
    (gives_c (meaning op (codes "CALL <@maps> @map (%a)")) ≡ good)
    × (plain (meaning op (codes "CALL <@maps> @map (%a)")) ≡ at ResultCount 0)
    × (plain (meaning op (codes "CALL <@acts> @map ()")) ≡ at OperandType 13)
    × (gives_c (meaning op (codes "CALL <@maps> @map (%a %a)")) ≡ at ArgumentCount 18)
    × (gives_c (meaning op (codes "CALL <@maps> @map (%e)")) ≡ at ArgumentType 19)
    × (gives_c (meaning op (codes "CALL <@maps> @map (%z)")) ≡ at NotLocal 19)
    × (gives_c (meaning op (codes "CALL <@maps> %a (%a)")) ≡ at OperandType 13)
    × (plain (meaning op (codes "CALL <@acts> @act ()")) ≡ good)
    × (plain (meaning op (codes "TAILCALL <@maps> @map (%a)")) ≡ good)
    × (plain (meaning op (codes "TAILCALL <@maps> @act (%a)")) ≡ at OperandType 17)
    × (plain (meaning op (codes "TAILCALL <@maps> @map ()")) ≡ at ArgumentCount 22)
    × (plain (meaning op (codes "TAILCALL <@acts> @act ()")) ≡ at BadSignature 10)
    × (plain (meaning op (codes "RET %a")) ≡ good)
    × (plain (meaning op (codes "RET ()")) ≡ at ArgumentCount 4)
    × (plain (meaning op (codes "RET %bit")) ≡ at ArgumentType 4)
    × (plain (meaning op (codes "THROW %e")) ≡ good)
    × (plain (meaning op (codes "THROW %box")) ≡ at OperandType 6)
unfolding tokens_from tokens_within next_of gap_len words directives common_names elements mark name numeral order global local bracketed bracketed_pair local_list type_list value values dest exc keep pass_values throw_exc new_stack_clause binary compare convert refcast select bracketed_field extractvalue insertvalue computation branch branch2 switch_case switch call tailcall ret throw control new_object newhybrid alloca allocation getiref getfieldiref getelemiref shiftiref getvarpartiref addressing_form optional_order load store weak cmpxchg atomicrmw fence access trap wpexc watchpoint wpbranch trapping_form returning killing swapstack threadlocal newthread stack_switch one_value two_values three_values new_stack kill_stack thread_exit current_stack set_threadlocal get_threadlocal futex_wait futex_wake futex_wait_timeout common_inst op alike leaves_to argument_demands inst_demands
calls_are_judged = (refl, refl, refl, refl, refl, refl, refl, refl, refl, refl, refl, refl, refl, refl, refl, refl, refl)

own_results_and_exceptions :
    (gives_c (meaning op (codes "SDIV <@long> %a %a EXC(%m(%c) %n())")) ≡ good)
    × (gives_c (meaning op (codes "SDIV <@long> %a %a EXC(%n() %m(%c))")) ≡ at NotLocal 31)
    × (gives_c (meaning op (codes "SDIV <@long> %a %a EXC(%n() %h(%a))")) ≡ good)
    × (gives_c (meaning op (codes "SDIV <@long> %a %a EXC(%h(%a) %n())")) ≡ at BadDestination 23)
    × (gives_c (meaning op (codes "CALL <@maps> @map (%a) EXC(%m(%c) %h(%a)) KEEPALIVE(%a %e)")) ≡ good)
    × (gives_c (meaning op (codes "SDIV <@long> %a %a EXC(%h(%a) %m(%c))")) ≡ at BadDestination 23)
    × (gives_c (meaning op (codes "SDIV <@long> %a %a EXC(%m(%c) %h())")) ≡ at ArgumentCount 32)
    × (gives_c (meaning op (codes "CALL <@maps> @map (%a) KEEPALIVE(%a %c)")) ≡ at NotLocal 36)
    × (gives_c (meaning op (codes "CALL <@maps> @map (%a) EXC(%n() %m(%c)) KEEPALIVE(%c)")) ≡ at NotLocal 35)
unfolding tokens_from tokens_within next_of gap_len words directives common_names elements mark name numeral order global local bracketed bracketed_pair local_list type_list value values dest exc keep pass_values throw_exc new_stack_clause binary compare convert refcast select bracketed_field extractvalue insertvalue computation branch branch2 switch_case switch call tailcall ret throw control new_object newhybrid alloca allocation getiref getfieldiref getelemiref shiftiref getvarpartiref addressing_form optional_order load store weak cmpxchg atomicrmw fence access trap wpexc watchpoint wpbranch trapping_form returning killing swapstack threadlocal newthread stack_switch one_value two_values three_values new_stack kill_stack thread_exit current_stack set_threadlocal get_threadlocal futex_wait futex_wake futex_wait_timeout common_inst op alike leaves_to argument_demands inst_demands
own_results_and_exceptions = (refl, refl, refl, refl, refl, refl, refl, refl, refl)

instructions_in_turn :
    (gives_c_then (meaning op (codes "ADD <@long> %a %a")) (meaning op (codes "RET %c")) ≡ good)
    × (gives_c_then (meaning op (codes "ADD <@bit> %bit %bit")) (meaning op (codes " RET %c")) ≡ at ArgumentType 5)
    × (plain_then (meaning op (codes "CALL <@acts> @act ()")) (meaning op (codes "RET %a")) ≡ good)
    × (plain_then (meaning op (codes "CALL <@acts> @act () EXC(%n() %h(%a))")) (meaning op (codes " RET %a")) ≡ at AfterEnding 1)
    × (plain_then (meaning op (codes "THROW %e")) (meaning op (codes " BRANCH %z(%z)")) ≡ at AfterEnding 1)
    × (gives_c_then (meaning op (codes "SDIV <@long> %a %a EXC(%m(%c) %n())")) (meaning op (codes " RET %c")) ≡ at AfterEnding 1)
unfolding tokens_from tokens_within next_of gap_len words directives common_names elements mark name numeral order global local bracketed bracketed_pair local_list type_list value values dest exc keep pass_values throw_exc new_stack_clause binary compare convert refcast select bracketed_field extractvalue insertvalue computation branch branch2 switch_case switch call tailcall ret throw control new_object newhybrid alloca allocation getiref getfieldiref getelemiref shiftiref getvarpartiref addressing_form optional_order load store weak cmpxchg atomicrmw fence access trap wpexc watchpoint wpbranch trapping_form returning killing swapstack threadlocal newthread stack_switch one_value two_values three_values new_stack kill_stack thread_exit current_stack set_threadlocal get_threadlocal futex_wait futex_wake futex_wait_timeout common_inst op alike leaves_to argument_demands inst_demands
instructions_in_turn = (refl, refl, refl, refl, refl, refl)
