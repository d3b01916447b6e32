-- Worked examples. Instructions on objects and places in them, on memory, on stacks, and under names.
use Rattle.std.specs.Prelude.{◌≡◌, refl, codes}
use Rattle.text_forms.specs.Reading.{elements}
use Rattle.ir_lex.specs.WordTable.{words, directives, common_names}
use Rattle.ir_lex.specs.Scanner.{gap_len, next_of}
use Rattle.ir_lex.specs.Walk.{tokens_within, tokens_from}
use Rattle.ir_lex.specs.TokenForms.{mark, name, numeral}
use Rattle.ir_tree.specs.Words.{order}
use Rattle.ir_tree.specs.Lists.{global, bracketed, local, bracketed_pair, local_list, type_list, value, values, dest, exc, keep, pass_values, throw_exc, new_stack_clause}
use Rattle.ir_tree.specs.Computations.{binary, compare, convert, refcast, select, bracketed_field, extractvalue, insertvalue, computation}
use Rattle.ir_tree.specs.Control.{branch, branch2, switch_case, switch, call, tailcall, ret, throw, control}
use Rattle.ir_tree.specs.Objects.{new_object, newhybrid, alloca, allocation, getiref, getfieldiref, getelemiref, shiftiref, getvarpartiref, addressing_form}
use Rattle.ir_tree.specs.Accesses.{optional_order, load, store, weak, cmpxchg, atomicrmw, fence, access}
use Rattle.ir_tree.specs.Stacks.{trap, wpexc, watchpoint, wpbranch, trapping_form, returning, killing, swapstack, threadlocal, newthread, stack_switch}
use Rattle.ir_tree.specs.CommonForms.{one_value, two_values, three_values, new_stack, kill_stack, thread_exit, current_stack, set_threadlocal, get_threadlocal, futex_wait, futex_wake, futex_wait_timeout, common_inst}
use Rattle.ir_tree.specs.Instructions.{op}
use Rattle.ir_tree.specs.Samples.{meaning}
use Rattle.type_definitions.specs.Same.{alike}
use Rattle.type_definitions.specs.Leaves.{leaves_to}
use Rattle.check_tables.specs.declared.fault.CheckKind.TheVariants.{OperandType, ResultCount, ArgumentCount, ArgumentType, NotLocal, AfterEnding, BadOrder, BadDestination, BadIndex}
use Rattle.checked_code.specs.Operands.{argument_demands}
use Rattle.checked_code.specs.Instructions.{inst_demands}
use Rattle.code_check.specs.Verdicts.{plain, gives_c, gives_c_d, plain_then, gives_c_then, good, at}

objects_are_judged :
    (gives_c (meaning op (codes "NEW <@pair>")) ≡ good)
    × (gives_c (meaning op (codes "NEW <@void>")) ≡ good)
    × (gives_c (meaning op (codes "NEW <@tail>")) ≡ at OperandType 5)
    × (plain (meaning op (codes "NEW <@pair>")) ≡ at ResultCount 0)
    × (gives_c_then (meaning op (codes "NEW <@long> EXC(%n() %h(%a))")) (meaning op (codes " RET %a")) ≡ at AfterEnding 1)
    × (gives_c_then (meaning op (codes "NEW <@long>")) (meaning op (codes "COMMINST @uvm.set_threadlocal (%c)")) ≡ at OperandType 31)
    × (gives_c_then (meaning op (codes "NEW <@void>")) (meaning op (codes "THROW %c")) ≡ good)
    × (gives_c (meaning op (codes "NEWHYBRID <@tail @long> %a")) ≡ good)
    × (gives_c (meaning op (codes "NEWHYBRID <@pair @long> %a")) ≡ at OperandType 11)
    × (gives_c (meaning op (codes "NEWHYBRID <@tail @long> %bit")) ≡ at OperandType 24)
    × (gives_c (meaning op (codes "ALLOCA <@long>")) ≡ good)
    × (gives_c (meaning op (codes "ALLOCA <@tail>")) ≡ at OperandType 8)
unfolding tokens_from tokens_within next_of gap_len words directives common_names elements mark name numeral order global local bracketed bracketed_pair local_list type_list value values dest exc keep pass_values throw_exc new_stack_clause binary compare convert refcast select bracketed_field extractvalue insertvalue computation branch branch2 switch_case switch call tailcall ret throw control new_object newhybrid alloca allocation getiref getfieldiref getelemiref shiftiref getvarpartiref addressing_form optional_order load store weak cmpxchg atomicrmw fence access trap wpexc watchpoint wpbranch trapping_form returning killing swapstack threadlocal newthread stack_switch one_value two_values three_values new_stack kill_stack thread_exit current_stack set_threadlocal get_threadlocal futex_wait futex_wake futex_wait_timeout common_inst op alike leaves_to argument_demands inst_demands
objects_are_judged = (refl, refl, refl, refl, refl, refl, refl, refl, refl, refl, refl, refl)

places_are_found :
    (gives_c (meaning op (codes "GETIREF <@pair> %pair_box")) ≡ good)
    × (gives_c (meaning op (codes "GETIREF <@pair> %box")) ≡ at OperandType 16)
    × (gives_c (meaning op (codes "GETFIELDIREF <@tail 0> %tail_place")) ≡ good)
    × (gives_c (meaning op (codes "GETFIELDIREF <@tail 1> %tail_place")) ≡ at BadIndex 20)
    × (gives_c (meaning op (codes "GETFIELDIREF <@row 0> %row_place")) ≡ at OperandType 14)
    × (gives_c_then (meaning op (codes "GETFIELDIREF <@pair 0> %pair_place")) (meaning op (codes "STORE <@long> %c %a")) ≡ good)
    × (gives_c (meaning op (codes "GETELEMIREF <@row @bit> %row_place %bit")) ≡ good)
    × (gives_c (meaning op (codes "GETELEMIREF <@pair @long> %pair_place %a")) ≡ at OperandType 13)
    × (gives_c (meaning op (codes "SHIFTIREF <@long @word> @cell %word")) ≡ good)
    × (gives_c (meaning op (codes "SHIFTIREF <@void @long> %place %a")) ≡ at OperandType 11)
    × (gives_c (meaning op (codes "SHIFTIREF <@long @object> @cell %e")) ≡ at OperandType 17)
    × (gives_c (meaning op (codes "SHIFTIREF <@tail @long> %tail_place %a")) ≡ at OperandType 11)
    × (gives_c (meaning op (codes "GETVARPARTIREF <@tail> %tail_place")) ≡ good)
    × (gives_c (meaning op (codes "GETVARPARTIREF <@tail> %row_place")) ≡ at OperandType 23)
unfolding tokens_from tokens_within next_of gap_len words directives common_names elements mark name numeral order global local bracketed bracketed_pair local_list type_list value values dest exc keep pass_values throw_exc new_stack_clause binary compare convert refcast select bracketed_field extractvalue insertvalue computation branch branch2 switch_case switch call tailcall ret throw control new_object newhybrid alloca allocation getiref getfieldiref getelemiref shiftiref getvarpartiref addressing_form optional_order load store weak cmpxchg atomicrmw fence access trap wpexc watchpoint wpbranch trapping_form returning killing swapstack threadlocal newthread stack_switch one_value two_values three_values new_stack kill_stack thread_exit current_stack set_threadlocal get_threadlocal futex_wait futex_wake futex_wait_timeout common_inst op alike leaves_to argument_demands inst_demands
places_are_found = (refl, refl, refl, refl, refl, refl, refl, refl, refl, refl, refl, refl, refl, refl)

accesses_are_judged :
    (gives_c (meaning op (codes "LOAD <@long> %place")) ≡ good)
    × (gives_c (meaning op (codes "LOAD RELEASE <@long> %place")) ≡ at BadOrder 5)
    × (gives_c (meaning op (codes "LOAD ACQUIRE <@long> @cell EXC(%m(%c) %h(%a))")) ≡ good)
    × (gives_c (meaning op (codes "LOAD <@pair> %pair_place")) ≡ at OperandType 6)
    × (gives_c (meaning op (codes "LOAD <@long> %box")) ≡ at OperandType 13)
    × (plain (meaning op (codes "STORE SEQ_CST <@long> @cell %a")) ≡ good)
    × (plain (meaning op (codes "STORE ACQUIRE <@long> @cell %a")) ≡ at BadOrder 6)
    × (plain (meaning op (codes "STORE <@long> @cell %bit")) ≡ at OperandType 20)
    × (gives_c (meaning op (codes "CMPXCHG SEQ_CST RELAXED <@long> @cell %a @one")) ≡ at ResultCount 0)
    × (gives_c_d (meaning op (codes "CMPXCHG SEQ_CST RELAXED <@long> @cell %a @one")) ≡ good)
    × (gives_c_d (meaning op (codes "CMPXCHG SEQ_CST RELEASE <@long> @cell %a @one")) ≡ at BadOrder 16)
    × (gives_c_d (meaning op (codes "CMPXCHG SEQ_CST RELAXED <@long> @cell %a @yes")) ≡ at OperandType 41)
    × (gives_c (meaning op (codes "ATOMICRMW ACQ_REL ADD <@long> @cell %a")) ≡ good)
    × (gives_c (meaning op (codes "ATOMICRMW RELAXED ADD <@object> %place %e")) ≡ at OperandType 23)
    × (gives_c (meaning op (codes "ATOMICRMW NOT_ATOMIC ADD <@long> @cell %a")) ≡ at BadOrder 10)
    × (plain (meaning op (codes "FENCE RELEASE")) ≡ good)
    × (plain (meaning op (codes "FENCE RELAXED")) ≡ at BadOrder 6)
unfolding tokens_from tokens_within next_of gap_len words directives common_names elements mark name numeral order global local bracketed bracketed_pair local_list type_list value values dest exc keep pass_values throw_exc new_stack_clause binary compare convert refcast select bracketed_field extractvalue insertvalue computation branch branch2 switch_case switch call tailcall ret throw control new_object newhybrid alloca allocation getiref getfieldiref getelemiref shiftiref getvarpartiref addressing_form optional_order load store weak cmpxchg atomicrmw fence access trap wpexc watchpoint wpbranch trapping_form returning killing swapstack threadlocal newthread stack_switch one_value two_values three_values new_stack kill_stack thread_exit current_stack set_threadlocal get_threadlocal futex_wait futex_wake futex_wait_timeout common_inst op alike leaves_to argument_demands inst_demands
accesses_are_judged = (refl, refl, refl, refl, refl, refl, refl, refl, refl, refl, refl, refl, refl, refl, refl, refl, refl)

stacks_are_judged :
    (gives_c (meaning op (codes "TRAP <@long> EXC(%m(%c) %h(%a)) KEEPALIVE(%a)")) ≡ good)
    × (gives_c (meaning op (codes "TRAP <@void>")) ≡ at OperandType 6)
    × (gives_c (meaning op (codes "TRAP <@long> KEEPALIVE(%c)")) ≡ at NotLocal 23)
    × (gives_c (meaning op (codes "WATCHPOINT 7 <@long> %n() %m(%c) WPEXC(%h(%a))")) ≡ good)
    × (gives_c (meaning op (codes "WATCHPOINT 7 <@long> %m(%c) %n()")) ≡ at NotLocal 24)
    × (gives_c (meaning op (codes "WATCHPOINT 7 <@long> %n() %m(%c) WPEXC(%m(%c))")) ≡ at NotLocal 42)
    × (plain (meaning op (codes "WATCHPOINT 4294967295 <> %n() %n() KEEPALIVE(%stack)")) ≡ good)
    × (plain (meaning op (codes "WATCHPOINT -1 <> %n() %n()")) ≡ at BadIndex 11)
    × (plain (meaning op (codes "WATCHPOINT 4294967296 <> %n() %n()")) ≡ at BadIndex 11)
    × (plain (meaning op (codes "WPBRANCH 7 %n() %h(%a)")) ≡ at BadDestination 16)
    × (gives_c (meaning op (codes "SWAPSTACK %stack RET_WITH<@long> PASS_VALUES<@long>(@one) EXC(%m(%c) %n()) KEEPALIVE(%a)")) ≡ good)
    × (plain_then (meaning op (codes "SWAPSTACK %stack KILL_OLD THROW_EXC %e")) (meaning op (codes " RET %a")) ≡ at AfterEnding 1)
    × (plain (meaning op (codes "SWAPSTACK %stack KILL_OLD PASS_VALUES<@void>()")) ≡ at OperandType 38)
    × (plain (meaning op (codes "SWAPSTACK %e KILL_OLD PASS_VALUES<>()")) ≡ at OperandType 10)
    × (plain (meaning op (codes "SWAPSTACK %stack KILL_OLD PASS_VALUES<@long>()")) ≡ at ArgumentCount 44)
    × (plain (meaning op (codes "SWAPSTACK %stack KILL_OLD PASS_VALUES<@long>(@yes)")) ≡ at ArgumentType 45)
    × (plain (meaning op (codes "SWAPSTACK %stack KILL_OLD THROW_EXC %box")) ≡ at OperandType 36)
    × (gives_c (meaning op (codes "NEWTHREAD %stack THREADLOCAL(%e) PASS_VALUES<>()")) ≡ good)
    × (gives_c (meaning op (codes "NEWTHREAD %stack THREADLOCAL(%a) PASS_VALUES<>()")) ≡ at OperandType 29)
unfolding tokens_from tokens_within next_of gap_len words directives common_names elements mark name numeral order global local bracketed bracketed_pair local_list type_list value values dest exc keep pass_values throw_exc new_stack_clause binary compare convert refcast select bracketed_field extractvalue insertvalue computation branch branch2 switch_case switch call tailcall ret throw control new_object newhybrid alloca allocation getiref getfieldiref getelemiref shiftiref getvarpartiref addressing_form optional_order load store weak cmpxchg atomicrmw fence access trap wpexc watchpoint wpbranch trapping_form returning killing swapstack threadlocal newthread stack_switch one_value two_values three_values new_stack kill_stack thread_exit current_stack set_threadlocal get_threadlocal futex_wait futex_wake futex_wait_timeout common_inst op alike leaves_to argument_demands inst_demands
stacks_are_judged = (refl, refl, refl, refl, refl, refl, refl, refl, refl, refl, refl, refl, refl, refl, refl, refl, refl, refl, refl)

common_instructions_are_judged :
    (gives_c (meaning op (codes "COMMINST @uvm.new_stack <[@acts]> (@act)")) ≡ good)
    × (gives_c (meaning op (codes "COMMINST @uvm.new_stack <[@acts]> (@map)")) ≡ at OperandType 35)
    × (gives_c_then (meaning op (codes "COMMINST @uvm.current_stack ()")) (meaning op (codes "COMMINST @uvm.kill_stack (%c)")) ≡ good)
    × (plain (meaning op (codes "COMMINST @uvm.kill_stack (%a)")) ≡ at OperandType 26)
    × (gives_c_then (meaning op (codes "COMMINST @uvm.get_threadlocal ()")) (meaning op (codes "COMMINST @uvm.set_threadlocal (%c)")) ≡ good)
    × (gives_c (meaning op (codes "COMMINST @uvm.thread_exit ()")) ≡ at ResultCount 0)
    × (plain_then (meaning op (codes "COMMINST @uvm.thread_exit ()")) (meaning op (codes " RET %a")) ≡ at AfterEnding 1)
    × (plain_then (meaning op (codes "COMMINST @uvm.set_threadlocal (%e)")) (meaning op (codes "COMMINST @uvm.thread_exit ()")) ≡ good)
    × (gives_c (meaning op (codes "COMMINST @uvm.futex.wait <@long> (@cell %a)")) ≡ good)
    × (gives_c (meaning op (codes "COMMINST @uvm.futex.wait <@object> (@cell %a)")) ≡ at OperandType 26)
    × (gives_c (meaning op (codes "COMMINST @uvm.futex.wake <@long> (@cell %word)")) ≡ good)
    × (gives_c (meaning op (codes "COMMINST @uvm.futex.wake <@long> (@cell %a)")) ≡ at OperandType 40)
    × (gives_c (meaning op (codes "COMMINST @uvm.futex.wait_timeout <@long> (@cell %a %a)")) ≡ good)
    × (gives_c (meaning op (codes "COMMINST @uvm.futex.wait_timeout <@long> (@cell %a %word)")) ≡ at OperandType 51)
unfolding tokens_from tokens_within next_of gap_len words directives common_names elements mark name numeral order global local bracketed bracketed_pair local_list type_list value values dest exc keep pass_values throw_exc new_stack_clause binary compare convert refcast select bracketed_field extractvalue insertvalue computation branch branch2 switch_case switch call tailcall ret throw control new_object newhybrid alloca allocation getiref getfieldiref getelemiref shiftiref getvarpartiref addressing_form optional_order load store weak cmpxchg atomicrmw fence access trap wpexc watchpoint wpbranch trapping_form returning killing swapstack threadlocal newthread stack_switch one_value two_values three_values new_stack kill_stack thread_exit current_stack set_threadlocal get_threadlocal futex_wait futex_wake futex_wait_timeout common_inst op alike leaves_to argument_demands inst_demands
common_instructions_are_judged = (refl, refl, refl, refl, refl, refl, refl, refl, refl, refl, refl, refl, refl, refl)
