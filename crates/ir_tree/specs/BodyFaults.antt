-- Worked examples. Faults in bodies.
use Rattle.std.specs.Prelude.{◌≡◌, refl, codes}
use Rattle.text_forms.specs.declared.fault.FaultKind.TheVariants as kinds
use Rattle.text_forms.specs.Reading.{elements}
use Rattle.ir_lex.specs.WordTable.{words, directives, common_names}
use Rattle.ir_lex.specs.Scanner.{gap_len, next_of}
use Rattle.ir_lex.specs.Walk.{tokens_within, tokens_from}
use Rattle.ir_lex.specs.TokenForms.{mark, name, numeral}
use Rattle.ir_tree.specs.Words.{order}
use Rattle.ir_tree.specs.Lists.{global, local, bracketed, bracketed_pair, local_list, type_list, value, values, dest, exc, keep, pass_values, throw_exc, new_stack_clause}
use Rattle.ir_tree.specs.Computations.{binary, compare, convert, refcast, select, bracketed_field, extractvalue, insertvalue, computation}
use Rattle.ir_tree.specs.Control.{branch, branch2, switch_case, switch, call, tailcall, ret, throw, control}
use Rattle.ir_tree.specs.Objects.{new_object, newhybrid, alloca, allocation, getiref, getfieldiref, getelemiref, shiftiref, getvarpartiref, addressing_form}
use Rattle.ir_tree.specs.Accesses.{optional_order, load, store, weak, cmpxchg, atomicrmw, fence, access}
use Rattle.ir_tree.specs.Stacks.{trap, wpexc, watchpoint, wpbranch, trapping_form, returning, killing, swapstack, threadlocal, newthread, stack_switch}
use Rattle.ir_tree.specs.CommonForms.{one_value, two_values, three_values, new_stack, kill_stack, thread_exit, current_stack, set_threadlocal, get_threadlocal, futex_wait, futex_wake, futex_wait_timeout, common_inst}
use Rattle.ir_tree.specs.Instructions.{op, label, labelled}
use Rattle.ir_tree.specs.Blocks.{pair, params, handler, head_rest, head, result}
use Rattle.ir_tree.specs.Bodies.{results, more_results, body_rest, body}
use Rattle.ir_tree.specs.Samples.{stands, fault_in_body}

-- a local name before something else: the fault stands there
names_that_begin_nothing :
    (fault_in_body (codes "{ %e(): %a RET") ≡ stands kinds.Unexpected 11)
    × (fault_in_body (codes "{ %e(): %a ?") ≡ stands kinds.BadByte 11)
    × (fault_in_body (codes "{ %e(): %a") ≡ stands kinds.Unexpected 10)
    × (fault_in_body (codes "{ %a = RET") ≡ stands kinds.Unexpected 5)
    × (fault_in_body (codes "{ RET") ≡ stands kinds.Unexpected 2)
unfolding tokens_from tokens_within next_of gap_len words directives common_names elements mark name numeral order global local bracketed bracketed_pair local_list type_list value values dest exc keep pass_values throw_exc new_stack_clause binary compare convert refcast select bracketed_field extractvalue insertvalue computation branch branch2 switch_case switch call tailcall ret throw control new_object newhybrid alloca allocation getiref getfieldiref getelemiref shiftiref getvarpartiref addressing_form optional_order load store weak cmpxchg atomicrmw fence access trap wpexc watchpoint wpbranch trapping_form returning killing swapstack threadlocal newthread stack_switch one_value two_values three_values new_stack kill_stack thread_exit current_stack set_threadlocal get_threadlocal futex_wait futex_wake futex_wait_timeout common_inst op label labelled pair params handler head_rest head result results more_results body_rest body
names_that_begin_nothing = (refl, refl, refl, refl, refl)

-- ( ) is no list here, and is no list of results without =
lists_that_begin_nothing :
    (fault_in_body (codes "{ %e(): RET () () }") ≡ stands kinds.Unexpected 18)
    × (fault_in_body (codes "{ %e(): COMMINST @uvm.thread_exit () () }") ≡ stands kinds.Unexpected 40)
    × (fault_in_body (codes "{ %e(): COMMINST @uvm.thread_exit (%a) }") ≡ stands kinds.Unexpected 39)
    × (fault_in_body (codes "{ %e(): COMMINST @uvm.thread_exit (RET") ≡ stands kinds.Unexpected 35)
unfolding tokens_from tokens_within next_of gap_len words directives common_names elements mark name numeral order global local bracketed bracketed_pair local_list type_list value values dest exc keep pass_values throw_exc new_stack_clause binary compare convert refcast select bracketed_field extractvalue insertvalue computation branch branch2 switch_case switch call tailcall ret throw control new_object newhybrid alloca allocation getiref getfieldiref getelemiref shiftiref getvarpartiref addressing_form optional_order load store weak cmpxchg atomicrmw fence access trap wpexc watchpoint wpbranch trapping_form returning killing swapstack threadlocal newthread stack_switch one_value two_values three_values new_stack kill_stack thread_exit current_stack set_threadlocal get_threadlocal futex_wait futex_wake futex_wait_timeout common_inst op label labelled pair params handler head_rest head result results more_results body_rest body
lists_that_begin_nothing = (refl, refl, refl, refl)

-- a common instruction has exactly the values that it shows
common_values_are_fixed :
    (fault_in_body (codes "{ %e(): COMMINST @uvm.kill_stack ()") ≡ stands kinds.Unexpected 34)
    × (fault_in_body (codes "{ %e(): COMMINST @uvm.kill_stack RET") ≡ stands kinds.Unexpected 33)
    × (fault_in_body (codes "{ %e(): COMMINST @uvm.futex.wake <@t> (%p %n %m)") ≡ stands kinds.Unexpected 45)
    × (fault_in_body (codes "{ %e(): COMMINST @uvm.futex.wait_timeout <@t> (%p %v)") ≡ stands kinds.Unexpected 52)
unfolding tokens_from tokens_within next_of gap_len words directives common_names elements mark name numeral order global local bracketed bracketed_pair local_list type_list value values dest exc keep pass_values throw_exc new_stack_clause binary compare convert refcast select bracketed_field extractvalue insertvalue computation branch branch2 switch_case switch call tailcall ret throw control new_object newhybrid alloca allocation getiref getfieldiref getelemiref shiftiref getvarpartiref addressing_form optional_order load store weak cmpxchg atomicrmw fence access trap wpexc watchpoint wpbranch trapping_form returning killing swapstack threadlocal newthread stack_switch one_value two_values three_values new_stack kill_stack thread_exit current_stack set_threadlocal get_threadlocal futex_wait futex_wake futex_wait_timeout common_inst op label labelled pair params handler head_rest head result results more_results body_rest body
common_values_are_fixed = (refl, refl, refl, refl)

-- words that the profile leaves out, at their place and elsewhere
left_out_at_their_place :
    (fault_in_body (codes "{ %e(): %a = FADD <@t> %b %c") ≡ stands kinds.NotInProfile 13)
    × (fault_in_body (codes "{ %e(): COMMINST @uvm.meta") ≡ stands kinds.NotInProfile 17)
    × (fault_in_body (codes "{ %e(): double") ≡ stands kinds.Unexpected 8)
    × (fault_in_body (codes "{ %e(): .expose") ≡ stands kinds.Unexpected 8)
unfolding tokens_from tokens_within next_of gap_len words directives common_names elements mark name numeral order global local bracketed bracketed_pair local_list type_list value values dest exc keep pass_values throw_exc new_stack_clause binary compare convert refcast select bracketed_field extractvalue insertvalue computation branch branch2 switch_case switch call tailcall ret throw control new_object newhybrid alloca allocation getiref getfieldiref getelemiref shiftiref getvarpartiref addressing_form optional_order load store weak cmpxchg atomicrmw fence access trap wpexc watchpoint wpbranch trapping_form returning killing swapstack threadlocal newthread stack_switch one_value two_values three_values new_stack kill_stack thread_exit current_stack set_threadlocal get_threadlocal futex_wait futex_wake futex_wait_timeout common_inst op label labelled pair params handler head_rest head result results more_results body_rest body
left_out_at_their_place = (refl, refl, refl, refl)
